use Rattle.std.proofs.Common.{◌∙◌, sym}
use Rattle.tb_value.specs.SeeKind.{part}
use Rattle.tb_value.specs.Proved.TypeTests.{same_part-Decides}
use Rattle.tb_value.proofs.equality.same_fields.Goals as goal

pub returns : goal.returns
returns c =
    let decides = same_part-Decides (part c.args.a.now) (part c.args.b.now) in
    (λ h. decides.0 (sym c.eq.ensures ∙ h), λ h. c.eq.ensures ∙ decides.1 h)
