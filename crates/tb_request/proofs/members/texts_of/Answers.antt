use Rattle.std.proofs.Common.{◌∙◌, ap, sym, arith}
use Rattle.tb_tree.specs.View.{listed}
use Rattle.serde_json.specs.Find.{as_str}
use Rattle.tb_json.proofs.LentValues.{each_in, ItemsWalk-more, ItemsWalk-fails, ItemsWalk-all}
use Rattle.tb_request.proofs.members.texts_of.Goals as goal

pub returns-in_default-as_str : goal.returns-in_default-as_str
returns-in_default-as_str c =
    ItemsWalk-fails as_str _ _ _ _ (omega arith) c.at.ensures (sym c.in_default-as_str.ensures) c.loop-i.invariant
    ∙ sym (each_in as_str _ _ c.in-Some.ensures)

pub loop-i-preserved : goal.loop-i-preserved
loop-i-preserved c =
    rw (c.in_ok-push.ensures.items, c.in_ok-from_str.ensures)
    (ItemsWalk-more as_str _ _ _ _ _ (omega arith) c.at.ensures (sym c.in-Some-as_str.ensures) c.loop-i.invariant)

pub returns : goal.returns
returns c =
    ItemsWalk-all as_str _ _ _ (omega arith) c.loop-i.invariant
    ∙ sym (each_in as_str _ _ c.in-Some.ensures)
