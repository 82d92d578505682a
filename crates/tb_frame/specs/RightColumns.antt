-- The columns that an answer takes of the two tables, by the lists of names that go.
use Rattle.std.specs.Prelude.{if◌then◌else◌, ℕ, ◌||◌, not, List, [], ◌++◌, filter, map, Option, Some}
use Rattle.tb_value.specs.Promise.Names.{Name}
use Rattle.tb_chunk.specs.Promise.Col.{Col}
use Rattle.tb_frame.specs.declared.args.JoinArgs.{JoinArgs}
use Rattle.tb_frame.specs.declared.args.JoinType.{JoinType}
use Rattle.tb_frame.specs.Promise.Naming.{coalesces, drops_left_keys, drops_right_keys, has_right, is_among, coalesces_keys, right_name}
use Rattle.tb_frame.specs.Frame.{opt_taken_rows, without_names}

-- the left names that the answer lacks, and the right ones
abbrev pub gone_left : JoinArgs → List Name → List Name
gone_left a left_on = (if drops_left_keys a.how (coalesces a) then left_on else [])

abbrev pub gone_right : JoinArgs → List Name → List Name
gone_right a right_on = (if drops_right_keys a.how (coalesces a) || coalesces_keys a.how (coalesces a)
    then right_on
    else [])

-- the right names that are not put beside the left ones: a Full join's keys go later
abbrev pub gone_beside : JoinArgs → List Name → List Name
gone_beside a right_on = (if drops_right_keys a.how (coalesces a) then right_on else [])

-- what a side has of which some stands in the answer: nothing on the right of a Semi or Anti join
abbrev pub right_side : {X : Type 0} → JoinType → List X → List X
right_side how xs = (if has_right how then xs else [])

-- the names that stay where some go
abbrev pub names_without : List Name → List Name → List Name
names_without gone names = filter (λ n. not (is_among gone n)) names

-- the names of right columns beside left ones, those that go left out
abbrev pub right_names : List Name → Name → List Name → List Name → List Name
right_names taken suffix gone names =
    map (right_name taken (Some suffix)) (names_without gone names)

-- the names of left columns, and behind them those of right ones, where some of each go
abbrev pub beside : List Name → List Name → List Name → List Name → Name → List Name
beside left gone_of_left right gone_of_right suffix = names_without gone_of_left left
    ++ right_names (names_without gone_of_left left) suffix gone_of_right right

-- a right column in the answer, with these rows
abbrev pub right_column : List Name → Name → List (Option ℕ) → Col → Col
right_column taken suffix rows c =
    record (opt_taken_rows rows c) { name = right_name taken (Some suffix) c.name }

-- the right columns in the answer, with these rows, those that go left out
abbrev pub right_columns : List Name → Name → List Name → List (Option ℕ) → List Col → List Col
right_columns taken suffix gone rows cs =
    map (right_column taken suffix rows) (without_names gone cs)
