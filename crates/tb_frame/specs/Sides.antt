-- Requests asked for another kind, and with their sides exchanged.
use Rattle.tb_frame.specs.declared.args.JoinArgs.{JoinArgs}
use Rattle.tb_frame.specs.declared.args.JoinType.{JoinType}
use Rattle.tb_frame.specs.declared.args.MaintainOrderJoin.{MaintainOrderJoin}
use Rattle.tb_frame.specs.declared.args.MaintainOrderJoin.TheVariants as order
use Rattle.tb_frame.specs.Promise.Join.{Request}

-- the same arguments, of another kind
abbrev pub of_kind : JoinType → JoinArgs → JoinArgs
of_kind how a = record a { how = how }

-- the same request, asked for another kind
abbrev pub asking : JoinType → Request → Request
asking how q = record q { args = of_kind how q.args }

-- the request with its sides exchanged
abbrev pub exchanged_request : Request → Request
exchanged_request q = record
    { left = q.right; right = q.left; left_on = q.right_on; right_on = q.left_on; left_keys = q.right_keys; right_keys = q.left_keys; args = q.args }

-- the same order, of the other side
abbrev pub flip : MaintainOrderJoin → MaintainOrderJoin
flip order.None = order.None
flip order.Left = order.Right
flip order.Right = order.Left
flip order.LeftRight = order.RightLeft
flip order.RightLeft = order.LeftRight
