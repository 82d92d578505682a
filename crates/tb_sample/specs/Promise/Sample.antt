-- Two tables of n rows, their join, and what is told of an answer to it.
use Rattle.std.specs.Prelude.{◌≡◌, ℕ, ◌*◌, ◌%◌, ℤ, pos, List, [], ◌∷◌, ◌++◌, map, codes, decimal, Option, Some, None}
use Rattle.std.specs.Fmt.{signed_decimal}
use Rattle.tb_value.specs.Promise.Datum.{Datum, int}
use Rattle.tb_value.specs.Promise.Kind.{int64}
use Rattle.tb_value.specs.Promise.Names.{Name}
use Rattle.tb_value.specs.Promise.Pairs.{row_numbers}
use Rattle.tb_agg.specs.Promise.Aggregates.{total}
use Rattle.tb_frame.specs.declared.args.JoinType.TheVariants.{Inner}
use Rattle.tb_frame.specs.Promise.Join.{Request, IsAnswer, by_names, column_named}
use Rattle.tb_frame.specs.Promise.Table.{TableColumn, Table, height}
use Rattle.tb_join.specs.Promise.Asked.{plain_args}
use Rattle.tb_sample.specs.declared.summary.Summary.{Summary}

-- THE TABLES

-- a column of type Int64 that has in each of n rows a number of that row
abbrev pub numbers : Name → (ℕ → ℕ) → ℕ → TableColumn
numbers name f n =
    record { name = name; kind = int64; values = map (λ i. int (pos (f i))) (row_numbers n) }

-- left row i has the key i and v = 3 i
abbrev pub left_table : ℕ → Table
left_table n = numbers (codes "key") (λ i. i) n ∷ numbers (codes "v") (λ i. 3 * i) n ∷ []

-- right row j has the key 7 j modulo n and w = j
abbrev pub right_table : ℕ → Table
right_table n = numbers (codes "key") (λ j. (7 * j) % n) n ∷ numbers (codes "w") (λ j. j) n ∷ []

-- their Inner join by `key`, with nothing else asked
unfoldable pub request : ℕ → Request
request n = by_names (left_table n) (right_table n) (codes "key" ∷ []) (codes "key" ∷ []) (plain_args Inner)

-- WHAT IS TOLD OF A TABLE

abbrev pub values_in : Option TableColumn → List Datum
values_in None = []
values_in (Some c) = c.values

-- the sum of the column of this name
abbrev pub sum_of : Name → Table → ℤ
sum_of name t = total (values_in (column_named t name))

-- the height, and the sums of `key` and of `w`
abbrev pub summary : Table → Summary
summary t = record { height = height t; key_sum = sum_of (codes "key") t; w_sum = sum_of (codes "w") t }

-- what is told of some answer to the join of the tables of n rows
unfoldable pub IsSummary : ℕ → Summary → Type 0
IsSummary n s = (t : Table) × IsAnswer (request n) t × (s ≡ summary t)

-- the text of it, and a newline
unfoldable pub text_of_summary : Summary → List ℕ
text_of_summary s =
    codes "{\"height\":" ++ decimal s.height ++ codes ",\"key_sum\":" ++ signed_decimal s.key_sum ++ codes ",\"w_sum\":" ++ signed_decimal s.w_sum ++ codes "}\n"
