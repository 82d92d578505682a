use Rattle.std.proofs.Common.{◌∙◌, ap, sym, arith}
use Rattle.tb_tree.specs.View.{listed}
use Rattle.serde_json.specs.Find.{as_bool}
use Rattle.tb_json.proofs.LentValues.{each_in, ItemsWalk-more, ItemsWalk-fails, ItemsWalk-all}
use Rattle.tb_request.proofs.members.truths_of.Goals as goal

pub returns-in_default-as_bool : goal.returns-in_default-as_bool
returns-in_default-as_bool c =
    ItemsWalk-fails as_bool _ _ _ _ (omega arith) c.at.ensures (sym c.in_default-as_bool.ensures) c.loop-i.invariant
    ∙ sym (each_in as_bool _ _ c.in-Some.ensures)

pub loop-i-preserved : goal.loop-i-preserved
loop-i-preserved c =
    rw c.in_ok-push.ensures.items
    (ItemsWalk-more as_bool _ _ _ _ _ (omega arith) c.at.ensures (sym c.in-Some-as_bool.ensures) c.loop-i.invariant)

pub returns : goal.returns
returns c =
    ItemsWalk-all as_bool _ _ _ (omega arith) c.loop-i.invariant
    ∙ sym (each_in as_bool _ _ c.in-Some.ensures)
