use Rattle.std.proofs.Common.{◌≡◌, [], get_or, sym, ◌∙◌}
use Rattle.std.proofs.lemmas.List.{get_or_default}
use Rattle.tb_frame.specs.NameSets.{has_name}
use Rattle.tb_frame.proofs.Seen.{seen_more}
use Rattle.tb_frame.proofs.names.name_set.Goals as goal

pub loop-name-preserved : goal.loop-name-preserved
loop-name-preserved c =
    let names = c.args.names.now in
    let i = c.loop-name.name-index in
    let name = c.name-item.result in
    let is : name ≡ get_or names i [] = c.name-item.is ∙ sym (get_or_default names i [] name c.loop-name-test.true) in
    seen_more names i name c.loop-name-test.true is (has_name c.loop-name.set) (has_name c.insert.new.self) c.loop-name.invariant c.in_ok-insert.ensures.names
