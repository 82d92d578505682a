-- When keys are merged and not hashed.
use Rattle.std.specs.Prelude.{ℕ, ◌==◌, ◌*◌, nat_lt, Bool, true, false, not, ◌&&◌, ◌||◌, List, [], ◌∷◌, length}
use Rattle.tb_value.specs.Promise.Typed.{is_whole_physical}
use Rattle.tb_value.specs.declared.sorted.IsSorted.{IsSorted}
use Rattle.tb_value.specs.declared.sorted.IsSorted.TheVariants.{Ascending, Descending, Not}
use Rattle.tb_chunk.specs.Promise.Col.{Col, values}
use Rattle.tb_cell.specs.Promise.Flag.{nulls}
use Rattle.tb_frame.specs.declared.args.JoinType.{JoinType}
use Rattle.tb_frame.specs.declared.args.JoinType.TheVariants.{Inner, Left, Right, Full, Semi, Anti}
use Rattle.tb_frame.specs.declared.args.JoinValidation.{JoinValidation}
use Rattle.tb_frame.specs.Promise.Refusal.{asks_a_side}
use Rattle.tb_pool.specs.Promise.ExecView.{ExecView}

-- nothing is asked of either side
abbrev pub asks_nothing : JoinValidation → Bool
asks_nothing validation = not (asks_a_side validation)

abbrev pub is_flagged : IsSorted → Bool
is_flagged Ascending = true
is_flagged Descending = false
is_flagged Not = false

-- a key that is stored as whole numbers, none of which is Null
abbrev pub is_merge_key : Col → Bool
is_merge_key c = is_whole_physical c.kind && length (nulls (values c)) == 0

-- sorting so many rows is worth it beside so many that ascend
abbrev pub is_worth : ExecView → ℕ → ℕ → Bool
is_worth exec rows ascending = nat_lt (rows * exec.den) (exec.num * ascending)

abbrev pub is_inner : JoinType → Bool
is_inner Inner = true
is_inner Left = false
is_inner Right = false
is_inner Full = false
is_inner Semi = false
is_inner Anti = false

-- Both keys are flagged as ascending. Or the left one is, and the right one is worth sorting. Or, in an Inner join, the right
-- one is, and the left one is worth sorting
abbrev pub have_order : JoinType → ExecView → Col → Col → Bool
have_order how exec left right =
    (is_flagged left.flag && is_flagged right.flag)
    || ((is_flagged left.flag && is_worth exec (length (values right)) (length (values left)))
    || (is_inner how && is_flagged right.flag
    && is_worth exec (length (values left)) (length (values right))))

-- a Right join is judged with its sides exchanged, and no Full, Semi or Anti join is merged
abbrev pub are_ordered : JoinType → ExecView → Col → Col → Bool
are_ordered Inner exec left right = have_order Inner exec left right
are_ordered Left exec left right = have_order Left exec left right
are_ordered Right exec left right = have_order Right exec right left
are_ordered how exec left right = false

-- two keys are merged: nothing is asked of them, they have the order for it, and both can be
abbrev pub takes_key_path : JoinType → JoinValidation → ExecView → Col → Col → Bool
takes_key_path how validation exec left right =
    asks_nothing validation && are_ordered how exec left right && is_merge_key left
    && is_merge_key right

-- one key on each side
abbrev pub takes_path_by : JoinType → JoinValidation → ExecView → List Col → List Col → Bool
takes_path_by how validation exec (l ∷ []) (r ∷ []) = takes_key_path how validation exec l r
takes_path_by how validation exec _ _ = false
