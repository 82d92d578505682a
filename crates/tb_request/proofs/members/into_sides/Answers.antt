use Rattle.std.proofs.Common.{option_map, codes, ap, ◌∙◌}
use Rattle.std.proofs.lemmas.Map.Text.{btree_map_updates_text}
use Rattle.tb_tree.specs.View.{view}
use Rattle.tb_request.proofs.Taken.{member_is}
use Rattle.tb_request.proofs.members.into_sides.Goals as goal

pub returns-clause-left : goal.returns-clause-left
returns-clause-left c = ap (option_map view) c.remove-left.ensures.value ∙ member_is (codes "left") (view c.args.object) c.in-Some.members c.in-Some.ensures

pub returns-clause-right : goal.returns-clause-right
returns-clause-right c =
    ap (option_map view) (c.remove-right.ensures.value ∙ btree_map_updates_text (codes "left") c.in-Some.members c.remove-left.new.self _ c.remove-left.ensures.updates (codes "right"))
    ∙ member_is (codes "right") (view c.args.object) c.in-Some.members c.in-Some.ensures
