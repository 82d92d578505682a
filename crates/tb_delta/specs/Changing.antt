-- What a view keeps between the steps of a list.
use Rattle.std.specs.Prelude.{ℕ, Bool}
use Rattle.tb_value.specs.declared.error.Side.{Side}
use Rattle.tb_value.specs.declared.error.Side.TheVariants as side
use Rattle.tb_delta.specs.Groups.{AreAscending}
use Rattle.tb_delta.specs.Inside.{IsKept, IsPlaced, state_of}
use Rattle.tb_delta.specs.Late.{ids_left, AreBelow}
use Rattle.tb_delta.specs.Promise.State.{State, other}
use Rattle.tb_delta.specs.declared.late.LateGroups.{LateGroups}
use Rattle.tb_delta.specs.declared.side_rows.SideRows.{SideRows}

-- the state of a side and of the other one
abbrev pub of_both : Side → SideRows → SideRows → Bool → State
of_both side.Left own others join_nulls = state_of own others join_nulls
of_both side.Right own others join_nulls = state_of others own join_nulls

-- the same as of a view, but that ids may still be to be taken out of the groups
pub record IsChanging (s : Side) (own others : SideRows) (join_nulls : Bool) (gs : LateGroups)
    : Type 0 where
  pub kept : IsKept (of_both s own others join_nulls) (ids_left gs)
  pub own_placed : IsPlaced own
  pub others_placed : IsPlaced others
  pub ascend : AreAscending gs.groups
  pub own_below : AreBelow gs s own.ever
  pub others_below : AreBelow gs (other s) others.ever
