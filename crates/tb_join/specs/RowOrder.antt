-- How the rows of a side run along the pairs of a join.
use Rattle.std.specs.Prelude.{List, map}
use Rattle.tb_value.specs.declared.index.JoinPair.{JoinPair}
use Rattle.tb_value.specs.declared.sorted.IsSorted.{IsSorted}
use Rattle.tb_value.specs.declared.sorted.IsSorted.TheVariants.{Ascending, Not}
use Rattle.tb_frame.specs.declared.args.Direction.{Direction}
use Rattle.tb_frame.specs.declared.args.Direction.TheVariants.{ByLeft, ByRight}
use Rattle.tb_frame.specs.declared.args.JoinArgs.{JoinArgs}
use Rattle.tb_frame.specs.declared.args.JoinType.{JoinType}
use Rattle.tb_frame.specs.declared.args.JoinType.TheVariants.{Inner, Left, Right, Semi, Anti}
use Rattle.tb_frame.specs.Promise.Join.{direction}
use Rattle.tb_gather.specs.Ids.{AreAllRowsInOrder}

-- the left rows ascend where the pairs are in their order and have each one
abbrev pub left_order : Direction → JoinType → IsSorted
left_order ByLeft Inner = Ascending
left_order ByLeft Left = Ascending
left_order ByLeft Semi = Ascending
left_order ByLeft Anti = Ascending
left_order _ _ = Not

-- and so the right rows
abbrev pub right_order : Direction → JoinType → IsSorted
right_order ByRight Inner = Ascending
right_order ByRight Right = Ascending
right_order _ _ = Not

-- what is known of them by the arguments
abbrev pub left_order_asked : JoinArgs → IsSorted
left_order_asked a = left_order (direction a.how a.maintain_order) a.how

abbrev pub right_order_asked : JoinArgs → IsSorted
right_order_asked a = right_order (direction a.how a.maintain_order) a.how

-- along these pairs that is so
pub record AscendAsAsked (a : JoinArgs) (ps : List JoinPair) : Type 0 where
  pub left : AreAllRowsInOrder (left_order_asked a) (map (λ (p : JoinPair). p.left) ps)
  pub right : AreAllRowsInOrder (right_order_asked a) (map (λ (p : JoinPair). p.right) ps)
