-- Rows in the order of their values, and tables of them.
use Rattle.std.proofs.Common.{◌≡◌, ◌∙◌, ◌<◌, ℕ, suc, Bool, true, false, cond, List, [], ◌∷◌, map, refl, ap, length}
use Rattle.std.specs.Cmp.{IsTotalOrder}
use Rattle.std.specs.List.{All}
use Rattle.std.specs.Ordering.{is_lt}
use Rattle.std.specs.declared.cmp.Ordering.{Ordering}
use Rattle.std.proofs.lemmas.Cmp.{lists_total, on_total}
use Rattle.std.proofs.lemmas.List.FromFn.{length-range_with_len}
use Rattle.tb_value.specs.Promise.Pairs.{row_numbers}
use Rattle.tb_value.proofs.RowNumbers as numbers
use Rattle.tb_chunk.specs.Promise.Col.{Col}
use Rattle.tb_rows.specs.Promise.InOrder.{in_order, put}
use Rattle.tb_rows.proofs.InOrder.{in_order-all}
use Rattle.tb_rows.proofs.Orders.{value_total}
use Rattle.tb_frame.specs.Frame.{taken_rows}
use Rattle.tb_frame.specs.Promise.Table.{Table, TableColumn, plain_column, row_at, table_of}
use Rattle.tb_frame.proofs.Taking.{values-taken}
use Rattle.tb_group_front.specs.Promise.Sorted.{of_rows, row_cmp, rows_by}

pub row_cmp_total : (cs : Table) → IsTotalOrder (row_cmp cs)
row_cmp_total cs = on_total (row_at cs) (lists_total value_total)

-- a table of some rows, where it is cut into chunks
pub taken_is : (rows : List ℕ) (cs : List Col) → table_of (map (taken_rows rows) cs) ≡ of_rows rows (table_of cs)
taken_is rows [] = refl
taken_is rows (c ∷ cs) = λ i. record { name = c.name; kind = c.kind; values = values-taken rows c i } ∷ taken_is rows cs i

-- no row is beyond the table
pub rows_below : (cs : Table) (n : ℕ) → All (λ r. r < n) (rows_by cs n)
rows_below cs n = in_order-all (row_cmp cs) (row_cmp_total cs) (λ r. r < n) (row_numbers n) (numbers.rows_below n)

length_put : {X : Type 0} (cmp : X → X → Ordering) (x : X) (ys : List X) → length (put cmp x ys) ≡ suc (length ys)
length_put cmp x [] = refl
length_put cmp x (y ∷ ys) = by (is_lt (cmp y x)) (length_put cmp x ys)
  where
    by : (b : Bool) → length (put cmp x ys) ≡ suc (length ys) → length (cond b (y ∷ put cmp x ys) (x ∷ y ∷ ys)) ≡ suc (suc (length ys))
    by true e = ap (λ (n : ℕ). suc n) e
    by false e = refl

length_in_order : {X : Type 0} (cmp : X → X → Ordering) (xs : List X) → length (in_order cmp xs) ≡ length xs
length_in_order cmp [] = refl
length_in_order cmp (x ∷ xs) = length_put cmp x (in_order cmp xs) ∙ ap (λ (n : ℕ). suc n) (length_in_order cmp xs)

-- as many as there are
pub rows_many : (cs : Table) (n : ℕ) → length (rows_by cs n) ≡ n
rows_many cs n = length_in_order (row_cmp cs) (row_numbers n) ∙ length-range_with_len 0 n
