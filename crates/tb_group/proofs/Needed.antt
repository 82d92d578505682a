-- What a request's columns are asked to be.
use Rattle.std.proofs.Common.{◌≡◌, ◌∙◌, ◌<◌, ℕ, List, [], ◌∷◌, Option, Some, None, length, refl, sym, ap, subst, arith}
use Rattle.std.specs.Borrow.{Bor}
use Rattle.std.specs.List.{All, cons_option}
use Rattle.std.specs.Option.{option_map}
use Rattle.std.proofs.lemmas.List.Elements.{All-cons, All-nil, All-weaker}
use Rattle.tb_chunk.specs.Lent.{lent_columns}
use Rattle.tb_chunk.specs.Promise.Col.{Col, values}
use Rattle.tb_frame.specs.Promise.Join.{column_named}
use Rattle.tb_frame.specs.Promise.Table.{Table, TableColumn, height, plain_column}
use Rattle.tb_frame.proofs.Causes.{found_holds}
use Rattle.tb_value.specs.Promise.Names.{same_name}
use Rattle.tb_rowkey.specs.Promise.Columns.{row_count}
use Rattle.tb_rows.proofs.FirstRows.{firsts_below}
use Rattle.tb_group.specs.Asked.{Asked, asked_as, asked_list, asked_of}
use Rattle.tb_group.specs.Promise.Group.{alike, group_firsts}
use Rattle.tb_group.specs.Promise.Request.{Request}
use Rattle.tb_group.specs.Served.{AreServed, Wanted}
use Rattle.tb_group.specs.declared.lookup.AskedColumn.{AskedColumn}
use Rattle.tb_group.specs.declared.request.GroupAgg.{GroupAgg}
use Rattle.tb_group.proofs.Answered.{count_is, each_high}
use Rattle.tb_group.proofs.Pieces.{lent_many, un_mapped}

-- what holds of each column of a table holds of those of whose values aggregates are made
pub asked_hold : (P : TableColumn → Type 0) (t : Table) → All P t → (aggs : List GroupAgg) → All (λ (p : Asked). P p.1) (asked_of t aggs)
asked_hold P t all [] = All-nil (λ (p : Asked). P p.1)
asked_hold P t all (a ∷ aggs) = at (column_named t a.column) refl (asked_hold P t all aggs)
  where
    at : (o : Option TableColumn) → column_named t a.column ≡ o → All (λ (p : Asked). P p.1) (asked_of t aggs)
        → All (λ (p : Asked). P p.1) (cons_option (option_map (λ (v : TableColumn). (a, v)) o) (asked_of t aggs))
    at None e rest = rest
    at (Some v) e rest = All-cons (λ (p : Asked). P p.1) (a, v) (asked_of t aggs) (found_holds P (λ (k : TableColumn). same_name k.name a.column) t all v e) rest

module _ (q : Request) (w : Wanted) (s : AreServed q w) where
  pub some_by : 0 < length w.by
  some_by = omega (arith, s.some, ap length s.by, lent_many w.by)

  high_by : All (λ (c : Col). length (values c) ≡ w.height) (lent_columns w.by)
  high_by =
      un_mapped (λ (c : TableColumn). length c.values ≡ w.height) plain_column (lent_columns w.by)
      (subst (λ (t : Table). All (λ (c : TableColumn). length c.values ≡ w.height) t) (sym s.by) (each_high q w s))

  pub rows_by : All (λ (c : Col). length (values c) ≡ row_count (lent_columns w.by)) (lent_columns w.by)
  rows_by = subst (λ (m : ℕ). All (λ (c : Col). length (values c) ≡ m) (lent_columns w.by)) (sym (count_is q w s)) high_by

  pub rows_made : All (λ (a : AskedColumn). length (values a.column.now) ≡ row_count (lent_columns w.by)) w.made
  rows_made =
      un_mapped (λ (p : Asked). length p.1.values ≡ row_count (lent_columns w.by)) asked_as w.made
      (subst (λ (m : ℕ). All (λ (p : Asked). length p.1.values ≡ m) (asked_list w.made)) (sym s.high ∙ sym (count_is q w s)) s.level)

  -- rows of the table are rows of each column
  pub rows_within : (rows : List ℕ) → All (λ r. r < w.height) rows → All (λ (c : Bor Col). All (λ r. r < length (values c.now)) rows) w.by
  rows_within rows low =
      un_mapped (λ (c : Col). All (λ r. r < length (values c)) rows) (λ (c : Bor Col). c.now) w.by
      (All-weaker (λ (c : Col). length (values c) ≡ w.height) (λ (c : Col). All (λ r. r < length (values c)) rows)
      (λ c e. subst (λ (m : ℕ). All (λ r. r < m) rows) (sym e) low) (lent_columns w.by) high_by)

  -- the first rows are rows of the table
  pub firsts_within : All (λ r. r < w.height) (group_firsts q)
  firsts_within = subst (λ (m : ℕ). All (λ r. r < m) (group_firsts q)) (sym s.high) (firsts_below (alike q) (height q.table))
