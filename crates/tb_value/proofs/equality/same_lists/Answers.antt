use Rattle.std.proofs.Common.{◌∙◌, sym, ap}
use Rattle.tb_value.specs.Promise.Datum.{items_of}
use Rattle.tb_value.specs.Proved.ValueTests.{items-Decides}
use Rattle.tb_value.proofs.Lengths.{items_of-inj}
use Rattle.tb_value.proofs.equality.same_lists.Goals as goal

pub returns : goal.returns
returns c =
    let decides = items-Decides (items_of c.args.a.now) (items_of c.args.b.now) in
    (λ h. items_of-inj c.args.a.now c.args.b.now (decides.0 (sym c.eq.ensures ∙ h)), λ h. c.eq.ensures ∙ decides.1 (ap items_of h))
