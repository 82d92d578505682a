use Rattle.std.proofs.Common.{option_map, ap, ◌∙◌}
use Rattle.tb_tree.specs.View.{view}
use Rattle.tb_request.proofs.Taken.{member_is}
use Rattle.tb_request.proofs.members.into_member.Goals as goal

pub returns : goal.returns
returns c = ap (option_map view) c.remove.ensures.value ∙ member_is c.args.name.now (view c.args.object) c.in_ok-members.members c.in_ok-members.ensures
