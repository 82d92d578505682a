-- Columns of rows taken by the pairs, as the columns of an answer filled over the pairs.
use Rattle.std.proofs.Common.{◌≡◌, List, [], ◌∷◌, ◌++◌, map, refl, sym, ◌∙◌, Option, Some, None, ℕ}
use Rattle.std.specs.Prelude.{All, unwrap_or}
use Rattle.std.proofs.lemmas.List.{map-append}
use Rattle.std.proofs.lemmas.List.Elements.{All-map, All-weaker}
use Rattle.tb_value.specs.Promise.Names.{Name}
use Rattle.tb_value.specs.declared.index.JoinPair.{JoinPair}
use Rattle.tb_value.proofs.Loops.{map-map}
use Rattle.tb_chunk.specs.Promise.Col.{Col, values}
use Rattle.tb_chunk.specs.Rows.{IsRowOf, value_or_null}
use Rattle.tb_frame.specs.Answer.{IsPairOf, fill}
use Rattle.tb_frame.specs.Frame.{opt_taken_rows}
use Rattle.tb_frame.specs.Promise.Join.{Request, kept_left_columns, left_out, out, right_out, shown_right_columns, value_at}
use Rattle.tb_frame.specs.Promise.Naming.{default_suffix}
use Rattle.tb_frame.specs.RightColumns.{right_column}
use Rattle.tb_frame.specs.Promise.Table.{TableColumn, Table, plain_column, table_of, names_of}
use Rattle.tb_frame.proofs.Taking.{values-opt_taken}

-- ROWS OF A SIDE

-- the rows of a side of pairs in range are rows of that side
pub left_within : (l r : ℕ) (ps : List JoinPair) → All (IsPairOf l r) ps → All (IsRowOf l) (map (λ (p : JoinPair). p.left) ps)
left_within l r ps h = All-map (IsRowOf l) (λ (p : JoinPair). p.left) ps (All-weaker (IsPairOf l r) (λ (p : JoinPair). IsRowOf l p.left) (λ p in_range. in_range.0) ps h)

pub right_within : (r : ℕ) (ps : List JoinPair) → All (λ (p : JoinPair). IsRowOf r p.right) ps → All (IsRowOf r) (map (λ (p : JoinPair). p.right) ps)
right_within r ps h = All-map (IsRowOf r) (λ (p : JoinPair). p.right) ps h

-- COLUMNS

value_is : (c : Col) (o : Option ℕ) → value_or_null (values c) o ≡ value_at (plain_column c) o
value_is c None = refl
value_is c (Some i) = refl

-- the values of the rows of a side are those that the pairs have
pub values-side : (side : JoinPair → Option ℕ) (ps : List JoinPair) (c : Col) → values (opt_taken_rows (map side ps) c) ≡ map (λ (p : JoinPair). value_at (plain_column c) (side p)) ps
values-side side ps c = values-opt_taken (map side ps) c ∙ map-map (value_or_null (values c)) side ps ∙ (λ t. map (λ (p : JoinPair). value_is c (side p) t) ps)

right-made : (names : List Name) (suffix : Name) (ps : List JoinPair) (cs : List Col) → table_of (map (right_column names suffix (map (λ (p : JoinPair). p.right) ps)) cs) ≡ map (λ (k : TableColumn). fill ps (right_out names (Some suffix) k)) (table_of cs)
right-made names suffix ps [] = refl
right-made names suffix ps (c ∷ cs) = λ t. record { name = (right_out names (Some suffix) (plain_column c)).name; kind = c.kind; values = values-side (λ (p : JoinPair). p.right) ps c t } ∷ right-made names suffix ps cs t

module _ (q : Request) (ps : List JoinPair) where
  abbrev on_right : List Name → TableColumn → TableColumn
  on_right names k = fill ps (right_out names q.args.suffix k)

  filled : map (fill ps) (out q) ≡ map (λ (k : TableColumn). fill ps (left_out q k)) (kept_left_columns q) ++ map (on_right (names_of (kept_left_columns q))) (shown_right_columns q)
  filled =
      map-append (fill ps) (map (left_out q) (kept_left_columns q)) (map (right_out (names_of (kept_left_columns q)) q.args.suffix) (shown_right_columns q))
      ∙ (λ t. map-map (fill ps) (left_out q) (kept_left_columns q) t ++ map-map (fill ps) (right_out (names_of (kept_left_columns q)) q.args.suffix) (shown_right_columns q) t)

  -- left columns that are made of the kept ones, and the right ones beside them, are the columns of the answer
  pub columns-made : (made rs : List Col) (names : List Name) → table_of made ≡ map (λ (k : TableColumn). fill ps (left_out q k)) (kept_left_columns q) → table_of rs ≡ shown_right_columns q → names ≡ names_of (kept_left_columns q)
      → table_of (made ++ map (right_column names (unwrap_or q.args.suffix default_suffix) (map (λ (p : JoinPair). p.right) ps)) rs) ≡ map (fill ps) (out q)
  columns-made made rs names left right taken =
      let beside : List Col = map (right_column names (unwrap_or q.args.suffix default_suffix) (map (λ (p : JoinPair). p.right) ps)) rs in
      ◌∙◌ {A = Table} (map-append plain_column made beside)
      ((λ t. left t ++ right-made names (unwrap_or q.args.suffix default_suffix) ps rs t)
      ∙ (λ t. map (λ (k : TableColumn). fill ps (left_out q k)) (kept_left_columns q) ++ map (on_right (taken t)) (right t))
      ∙ sym filled)
