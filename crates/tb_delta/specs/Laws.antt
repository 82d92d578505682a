-- What holds of states.
use Rattle.std.specs.Prelude.{◌≡◌}
use Rattle.tb_delta.specs.Promise.Now.{now, table_now}
use Rattle.tb_delta.specs.Promise.State.{State, given}

-- the join of what is given anew is that of the rows that there are
abbrev pub MadeAnew : Type 0
MadeAnew = (s : State)
    → now (given (table_now s.left) (table_now s.right) s.left.key s.right.key s.join_nulls) ≡ now s
