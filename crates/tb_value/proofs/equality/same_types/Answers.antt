use Rattle.std.proofs.Common.{◌∙◌, sym}
use Rattle.tb_value.specs.SeeKind.{kind_of}
use Rattle.tb_value.specs.Proved.TypeTests.{same_kind-Decides}
use Rattle.tb_value.proofs.equality.same_types.Goals as goal

pub returns : goal.returns
returns c =
    let decides = same_kind-Decides (kind_of c.args.a.now) (kind_of c.args.b.now) in
    (λ h. decides.0 (sym c.eq.ensures ∙ h), λ h. c.eq.ensures ∙ decides.1 h)
