use Rattle.std.proofs.Common.{◌∙◌, sym, ap}
use Rattle.tb_value.specs.Promise.Kind.{parts_of}
use Rattle.tb_value.specs.SeeKind.{parts}
use Rattle.tb_value.specs.Proved.TypeTests.{same_parts-Decides}
use Rattle.tb_value.proofs.Lengths.{parts_of-inj}
use Rattle.tb_value.proofs.equality.same_structs.Goals as goal

pub returns : goal.returns
returns c =
    let decides = same_parts-Decides (parts_of (parts c.args.a.now)) (parts_of (parts c.args.b.now)) in
    (λ h. parts_of-inj (parts c.args.a.now) (parts c.args.b.now) (decides.0 (sym c.eq.ensures ∙ h)), λ h. c.eq.ensures ∙ decides.1 (ap parts_of h))
