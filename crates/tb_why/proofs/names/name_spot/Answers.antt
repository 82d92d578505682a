use Rattle.std.proofs.Common.{map, codes, sym, ap, subst, ◌∙◌}
use Rattle.tb_tree.specs.View.{listed}
use Rattle.tb_why.specs.declared.spot.Step.TheVariants.{Member, Index}
use Rattle.tb_why.specs.Spots.{under, Finds}
use Rattle.tb_why.proofs.Repeats.{name_spot_is}
use Rattle.tb_why.proofs.names.name_spot.Goals as goal

pub returns-in-Some : goal.returns-in-Some
returns-in-Some c =
    let name = c.in_ok-name-in-Some.ensures ∙ ap (under (Member (codes "name"))) c.here.ensures in
    let same = name_spot_is (listed c.args.columns) c.deref.result.now c.in-Some.i (c.deref.ensures.value ∙ c.in_ok-names.ensures) (sym c.in-Some.is ∙ c.in_ok-i.ensures) in
    subst (Finds c.under_index.result) (ap (under (Index c.in-Some.i)) name ∙ same) c.under_index.ensures
