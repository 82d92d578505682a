use Rattle.std.proofs.Common.{◌∙◌}
use Rattle.tb_tree.specs.View.{item_view, view}
use Rattle.tb_value.specs.SeeKind.{kind_of}
use Rattle.tb_request.proofs.Parts.{counted_is, no_run}
use Rattle.tb_request.proofs.runs.is_run.Goals as goal

pub returns-in-Some : goal.returns-in-Some
returns-in-Some c = c.is_count.ensures ∙ counted_is (kind_of c.args.dtype.now) (view c.args.value.now) _ c.in-Some.ensures

pub returns-in-None : goal.returns-in-None
returns-in-None c = no_run (kind_of c.args.dtype.now) (view c.args.value.now) c.in-None.ensures
