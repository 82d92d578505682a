use Rattle.std.proofs.Common.{option_map, codes, ap, ◌∙◌}
use Rattle.std.specs.Prelude.{option_and_then}
use Rattle.std.proofs.lemmas.Map.Text.{btree_map_updates_text}
use Rattle.tb_tree.specs.View.{view}
use Rattle.tb_json.specs.Promise.Lists.{as_list}
use Rattle.tb_request.proofs.Taken.{member_is}
use Rattle.tb_delta_request.proofs.shape.taken_members.Goals as goal

pub returns-clause-left : goal.returns-clause-left
returns-clause-left c = ap (option_map view) c.remove-left.ensures.value ∙ member_is (codes "left") (view c.args.object) c.in-Some.members c.in-Some.ensures

pub returns-clause-right : goal.returns-clause-right
returns-clause-right c =
    ap (option_map view) (c.remove-right.ensures.value ∙ btree_map_updates_text (codes "left") c.in-Some.members c.remove-left.new.self _ c.remove-left.ensures.updates (codes "right"))
    ∙ member_is (codes "right") (view c.args.object) c.in-Some.members c.in-Some.ensures

pub returns-clause-steps : goal.returns-clause-steps
returns-clause-steps c =
    ap (option_map view) (c.remove-steps.ensures.value
    ∙ btree_map_updates_text (codes "right") c.remove-left.new.self c.remove-right.new.self _ c.remove-right.ensures.updates (codes "steps")
    ∙ btree_map_updates_text (codes "left") c.in-Some.members c.remove-left.new.self _ c.remove-left.ensures.updates (codes "steps"))
    ∙ member_is (codes "steps") (view c.args.object) c.in-Some.members c.in-Some.ensures
