-- The columns that words ask for.
use Rattle.std.specs.Prelude.{◌==◌, ℕ, List, Option, Some, None, if◌then◌else◌, length, option_and_then, option_map}
use Rattle.std.specs.List.{after_first, before_first, position_or_len}
use Rattle.tb_agg.specs.declared.table.Aggregate.{Aggregate}
use Rattle.tb_group.specs.declared.request.GroupAgg.{GroupAgg}
use Rattle.tb_request.specs.Promise.Written.{agg_named}

-- the parts of a word before and behind the first such byte, where there is one
abbrev pub parts_at : ℕ → List ℕ → Option (List ℕ × List ℕ)
parts_at byte word = (if position_or_len (λ c. c == byte) word == length word
    then None
    else Some (before_first (λ c. c == byte) word, after_first (λ c. c == byte) word))

-- a column of this name, made by the aggregate and of the column that stand around `:`
abbrev pub agg_made : List ℕ → List ℕ × List ℕ → Option GroupAgg
agg_made name made = option_map
    (λ (agg : Aggregate). record { column = made.1; agg = agg; name = name }) (agg_named made.0)

-- its name stands before `=`, and how it is made behind it
abbrev pub agg_of_word : List ℕ → Option GroupAgg
agg_of_word word = option_and_then
    (λ (parts : List ℕ × List ℕ). option_and_then (agg_made parts.0) (parts_at 58 parts.1))
    (parts_at 61 word)
