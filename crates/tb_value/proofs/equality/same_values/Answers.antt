use Rattle.std.proofs.Common.{◌∙◌, sym}
use Rattle.tb_value.specs.See.{datum}
use Rattle.tb_value.specs.Proved.ValueTests.{same-Decides}
use Rattle.tb_value.proofs.equality.same_values.Goals as goal

pub returns : goal.returns
returns c =
    let decides = same-Decides (datum c.args.a.now) (datum c.args.b.now) in
    (λ h. decides.0 (sym c.eq.ensures ∙ h), λ h. c.eq.ensures ∙ decides.1 h)
