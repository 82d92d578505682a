use Rattle.std.proofs.Common.{map, ap, ◌∙◌}
use Rattle.std.proofs.lemmas.List.{take_all}
use Rattle.serde_json.specs.View.{items_of}
use Rattle.tb_group_request.specs.Promise.Texts.{count_data}
use Rattle.tb_group_request.proofs.texts.count_values.Goals as goal

pub returns : goal.returns
returns c =
    ap items_of
    (c.loop-count.invariant ∙ ap (map count_data) (take_all _ c.args.counts.now c.loop-count-test.false))
