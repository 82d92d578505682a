use Rattle.std.proofs.Common.{ap, codes, map, subst, ◌∙◌}
use Rattle.tb_tree.specs.View.{item_view, listed}
use Rattle.tb_why.specs.Columns.{kind_at}
use Rattle.tb_why.specs.Lent.{kinds_of}
use Rattle.tb_why.specs.Spots.{first_at, Finds}
use Rattle.tb_why.specs.Steps.{kinds_at, step_values_spot}
use Rattle.tb_why.proofs.steps.values_spot.Goals as goal

pub returns : goal.returns
returns c =
    let request = item_view c.args.request in
    let found = c.each_values_spot.result in
    let steps = listed c.args.steps in
    let left = c.in_ok-dtypes_of.ensures ∙ ap (map kind_at) c.columns_at.ensures in
    let right = c.in_ok-dtypes_of-2.ensures ∙ ap (map kind_at) c.columns_at-2.ensures in
    subst (λ ls. Finds found (first_at (step_values_spot ls (kinds_at (codes "right") request)) 0 steps)) left
    (subst (λ rs. Finds found (first_at (step_values_spot (kinds_of c.in_ok-dtypes_of.field-0) rs) 0 steps)) right c.each_values_spot.ensures)
