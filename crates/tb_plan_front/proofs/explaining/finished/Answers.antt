use Rattle.std.proofs.Common.{option_map, subst}
use Rattle.std.specs.declared.alloc.Global.{Global}
use Rattle.std.specs.declared.vec.Vec.{Vec}
use Rattle.tb_node.specs.Promise.Tables.{Tables}
use Rattle.tb_node.specs.Seen.{tree_of}
use Rattle.tb_plan_request.specs.Lent.{pivot_view}
use Rattle.tb_front.specs.Promise.Due.{Gives}
use Rattle.tb_plan_front.specs.Explained.{lines_view}
use Rattle.tb_plan_front.specs.Promise.Explained.{finished}
use Rattle.tb_plan_front.specs.declared.explaining.NodeLine.{NodeLine}
use Rattle.tb_plan_front.proofs.explaining.finished.Goals as goal

-- the map has the same tables under the same names
pub returns : goal.returns
returns g c =
    subst (λ (ts : Tables). Gives (λ (v : Vec NodeLine Global). lines_view v.items) c.finished_over.result (finished ts (tree_of c.args.root) (option_map pivot_view c.args.pivot)))
    (λ i n. c.in_ok-map.ensures n i) c.finished_over.ensures
