-- What the names and types of a view refuse, whichever rows there are.
use Rattle.std.proofs.Common.{◌≡◌, ℕ, min, ◌+◌, Bool, true, false, cond, not, List, [], ◌∷◌, length, get_or, map, Option, Some, None, refl, ap, sym, ◌∙◌}
use Rattle.std.specs.Prelude.{option_map}
use Rattle.std.specs.List.{cons_option, enumerate_from, find}
use Rattle.std.proofs.lemmas.List.{length-map}
use Rattle.tb_value.specs.Promise.Kind.{Kind}
use Rattle.tb_value.specs.Promise.Kind as kind
use Rattle.tb_value.specs.Promise.Names.{Name, same_name}
use Rattle.tb_value.specs.Promise.Pairs.{row_numbers}
use Rattle.tb_value.specs.Promise.Refusals.{first_cause}
use Rattle.tb_value.specs.Promise.SameKind.{is_key, same_kind}
use Rattle.tb_value.specs.declared.error.ComputeCause.TheVariants.{KeyTypes}
use Rattle.tb_value.specs.declared.error.InvalidCause.TheVariants.{KeyKind}
use Rattle.tb_value.specs.declared.error.PolarsError.TheVariants.{ColumnNotFound, ComputeError, InvalidOperation}
use Rattle.tb_frame.specs.declared.args.JoinArgs.{JoinArgs}
use Rattle.tb_frame.specs.Promise.Join.{by_names, column_named}
use Rattle.tb_frame.specs.Promise.Naming.{is_among, joined_names}
use Rattle.tb_frame.specs.Promise.Refusal.{repeated_among}
use Rattle.tb_frame.specs.Promise.Table.{Table, TableColumn, names_of}
use Rattle.tb_delta.specs.Inside.{emptied}
use Rattle.tb_delta.specs.Promise.Now.{column_now, columns_refusal, kept_args, table_now, view_refusal}
use Rattle.tb_delta.specs.Promise.State.{Row, State}

pub names_now : (rows : List Row) (k : ℕ) (cs : List (Name × Kind)) → names_of (map (column_now rows) (enumerate_from k cs)) ≡ map (λ (c : Name × Kind). c.0) cs
names_now rows k [] = refl
names_now rows k (c ∷ cs) = ap (λ (l : List Name). c.0 ∷ l) (names_now rows (k + 1) cs)

-- the type of the column of a name
kind_now : (rows more : List Row) (n : Name) (k : ℕ) (cs : List (Name × Kind))
    → option_map (λ (c : TableColumn). c.kind) (column_named (map (column_now rows) (enumerate_from k cs)) n) ≡ option_map (λ (c : TableColumn). c.kind) (column_named (map (column_now more) (enumerate_from k cs)) n)
kind_now rows more n k [] = refl
kind_now rows more n k (c ∷ cs) = at (same_name c.0 n) (kind_now rows more n (k + 1) cs)
  where
    at : (b : Bool) → option_map (λ (x : TableColumn). x.kind) (column_named (map (column_now rows) (enumerate_from (k + 1) cs)) n) ≡ option_map (λ (x : TableColumn). x.kind) (column_named (map (column_now more) (enumerate_from (k + 1) cs)) n)
        → option_map (λ (x : TableColumn). x.kind) (cond b (Some (column_now rows (k, c))) (column_named (map (column_now rows) (enumerate_from (k + 1) cs)) n))
        ≡ option_map (λ (x : TableColumn). x.kind) (cond b (Some (column_now more (k, c))) (column_named (map (column_now more) (enumerate_from (k + 1) cs)) n))
    at true e = refl
    at false e = e

one_kind : (o : Option TableColumn) → map (λ (c : TableColumn). c.kind) (cons_option o []) ≡ cons_option (option_map (λ (c : TableColumn). c.kind) o) []
one_kind None = refl
one_kind (Some c) = refl

module _ (l1 l2 r1 r2 : Table) (a b : Name) (args : JoinArgs) where
  abbrev keys : Table → Name → List TableColumn
  keys t n = cons_option (column_named t n) []

  abbrev kinds : Table → Name → List Kind
  kinds t n = map (λ (c : TableColumn). c.kind) (keys t n)

  -- tables of the same names, whose keys have the same types, are refused alike
  pub same_refusal : names_of l1 ≡ names_of l2 → names_of r1 ≡ names_of r2
      → option_map (λ (c : TableColumn). c.kind) (column_named l1 a) ≡ option_map (λ (c : TableColumn). c.kind) (column_named l2 a)
      → option_map (λ (c : TableColumn). c.kind) (column_named r1 b) ≡ option_map (λ (c : TableColumn). c.kind) (column_named r2 b)
      → columns_refusal (by_names l1 r1 (a ∷ []) (b ∷ []) args) ≡ columns_refusal (by_names l2 r2 (a ∷ []) (b ∷ []) args)
  same_refusal left right left_kind right_kind =
      let lk : kinds l1 a ≡ kinds l2 a = one_kind (column_named l1 a) ∙ ap (λ o. cons_option o []) left_kind ∙ sym (one_kind (column_named l2 a)) in
      let rk : kinds r1 b ≡ kinds r2 b = one_kind (column_named r1 b) ∙ ap (λ o. cons_option o []) right_kind ∙ sym (one_kind (column_named r2 b)) in
      let lc : length (keys l1 a) ≡ length (keys l2 a) = sym (length-map (keys l1 a) (λ (c : TableColumn). c.kind)) ∙ ap length lk ∙ length-map (keys l2 a) (λ (c : TableColumn). c.kind) in
      let rc : length (keys r1 b) ≡ length (keys r2 b) = sym (length-map (keys r1 b) (λ (c : TableColumn). c.kind)) ∙ ap length rk ∙ length-map (keys r2 b) (λ (c : TableColumn). c.kind) in
      λ t. first_cause (
      option_map (λ n. ColumnNotFound n) (find (λ n. not (is_among (left t) n)) (a ∷ []))
      ∷ option_map (λ n. ColumnNotFound n) (find (λ n. not (is_among (right t) n)) (b ∷ []))
      ∷ option_map (λ i. ComputeError (KeyTypes i)) (find (λ i. not (same_kind (get_or (lk t) i kind.null) (get_or (rk t) i kind.null))) (row_numbers (min (lc t) (rc t))))
      ∷ option_map (λ i. InvalidOperation (KeyKind i)) (find (λ i. not (is_key (get_or (lk t) i kind.null))) (row_numbers (min (lc t) (rc t))))
      ∷ repeated_among (joined_names args (a ∷ []) (b ∷ []) (left t) (right t))
      ∷ [])

-- the rows don't matter
pub rowless : (s : State) → view_refusal s ≡ view_refusal (emptied s)
rowless s = same_refusal (table_now s.left) (table_now (emptied s).left) (table_now s.right) (table_now (emptied s).right) s.left.key s.right.key (kept_args s.join_nulls)
    (names_now s.left.rows 0 s.left.columns ∙ sym (names_now [] 0 s.left.columns))
    (names_now s.right.rows 0 s.right.columns ∙ sym (names_now [] 0 s.right.columns))
    (kind_now s.left.rows [] s.left.key 0 s.left.columns)
    (kind_now s.right.rows [] s.right.key 0 s.right.columns)
