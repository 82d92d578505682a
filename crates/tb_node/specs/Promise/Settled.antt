-- The order of a join in a plan, which is never free.
use Rattle.tb_frame.specs.declared.args.Direction.{Direction}
use Rattle.tb_frame.specs.declared.args.Direction.TheVariants.{Free, ByLeft, ByRight}
use Rattle.tb_frame.specs.declared.args.JoinArgs.{JoinArgs}
use Rattle.tb_frame.specs.declared.args.MaintainOrderJoin.{MaintainOrderJoin}
use Rattle.tb_frame.specs.declared.args.MaintainOrderJoin.TheVariants.{LeftRight}
use Rattle.tb_frame.specs.Promise.Join.{direction}

-- an order that is free is that of the left table
abbrev pub settled_order : Direction → MaintainOrderJoin → MaintainOrderJoin
settled_order Free o = LeftRight
settled_order ByLeft o = o
settled_order ByRight o = o

abbrev pub settled : JoinArgs → JoinArgs
settled a =
    record a { maintain_order = settled_order (direction a.how a.maintain_order) a.maintain_order }
