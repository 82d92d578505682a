use Rattle.std.proofs.Common.{◌∙◌, sym}
use Rattle.tb_frame.specs.NameSets.{has_name}
use Rattle.tb_group_front.proofs.Compared.{added, passed_over}
use Rattle.tb_group_front.proofs.comparing.compared_names.Goals as goal

pub loop-asked-preserved-then-not-compares : goal.loop-asked-preserved-then-not-compares
loop-asked-preserved-then-not-compares c =
    passed_over c.args.aggs.now c.loop-asked.asked-index c.asked-item.result c.loop-asked-test.true c.asked-item.is (sym c.compares.ensures ∙ c.if-not-compares.true) (has_name c.loop-asked.names) c.loop-asked.invariant

pub loop-asked-preserved : goal.loop-asked-preserved
loop-asked-preserved c =
    added c.args.aggs.now c.loop-asked.asked-index c.asked-item.result c.loop-asked-test.true c.asked-item.is (sym c.compares.ensures ∙ c.if-not-compares.false) (has_name c.loop-asked.names) (has_name c.insert.new.self)
    c.loop-asked.invariant c.in_ok-insert.ensures.names
