use Rattle.std.proofs.Common.{map, sym, subst}
use Rattle.tb_tree.specs.View.{listed}
use Rattle.tb_why.specs.Spots.{Finds}
use Rattle.tb_why.proofs.Walks.{columns_spot-single}
use Rattle.tb_why.proofs.columns.columns_spot.Goals as goal

pub returns-in_default : goal.returns-in_default
returns-in_default c =
    subst (Finds c.single_spot.result) (sym (columns_spot-single c.args.format c.args.reason (listed c.args.columns) c.in_default.not-Name)) c.single_spot.ensures
