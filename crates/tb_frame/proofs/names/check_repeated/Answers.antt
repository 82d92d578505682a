use Rattle.std.proofs.Common.{◌∙◌, Bor, List, map, ap, subst}
use Rattle.tb_value.specs.Promise.Names.{Name}
use Rattle.tb_value.specs.Refusals.{Settles}
use Rattle.tb_frame.specs.Promise.Refusal.{repeated_among}
use Rattle.tb_frame.proofs.names.check_repeated.Goals as goal

pub returns : goal.returns
returns c =
    let now : List (Bor Name) → List Name = λ ns. map (λ (n : Bor Name). n.now) ns in
    subst (λ (ns : List Name). Settles c.check_distinct.result (repeated_among ns)) (ap now c.deref.ensures.value ∙ c.in_ok-lend_names.ensures) c.check_distinct.ensures
