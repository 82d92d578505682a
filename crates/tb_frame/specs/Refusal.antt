-- Which requests are refused, and why.
use Rattle.std.specs.Prelude.{ℕ, ◌==◌, Bool, ◌&&◌, ◌||◌, not, List, ◌∷◌, ◌++◌, length, Option}
use Rattle.std.specs.List.{list_all}
use Rattle.tb_value.specs.Promise.Refusals.{first_cause, when}
use Rattle.tb_value.specs.declared.error.PolarsError.{PolarsError}
use Rattle.tb_value.specs.declared.error.PolarsError.TheVariants.{ShapeMismatch}
use Rattle.tb_frame.specs.Promise.Table.{TableColumn, height}
use Rattle.tb_frame.specs.Promise.Join.{Request}
use Rattle.tb_frame.specs.Promise.Refusal.{name_causes, list_causes, column_causes, row_causes}

-- whether a key is as long as its table is high, or has one value beside a table without rows
abbrev pub fits : ℕ → TableColumn → Bool
fits n key = length key.values == n || n == 0 && length key.values == 1

-- a key that is given beside its table is not
abbrev pub key_shapes : Request → Option PolarsError
key_shapes q = when
    (not
    (list_all (fits (height q.left)) q.left_keys
    && list_all (fits (height q.right)) q.right_keys))
    ShapeMismatch

-- the causes of a request whose keys are given, of which the first two speak of the keys' names
abbrev pub given_causes : Request → List (Option PolarsError)
given_causes q = name_causes q.left q.right q.left_on q.right_on ++ key_shapes q
    ∷ list_causes q.args.join_nulls q.left_on q.right_on ++ column_causes q ++ row_causes q

abbrev pub given_refusal : Request → Option PolarsError
given_refusal q = first_cause (given_causes q)
