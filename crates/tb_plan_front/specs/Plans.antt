-- What the program has of a plan and its texts.
use Rattle.std.specs.Prelude.{ℕ, List, map, option_map}
use Rattle.tb_value.specs.Promise.Names.{Name}
use Rattle.tb_node.specs.Seen.{tree_of}
use Rattle.tb_plan_request.specs.Lent.{pivot_view}
use Rattle.tb_plan_front.specs.declared.named.NamedText.{NamedText}
use Rattle.tb_plan_front.specs.declared.plans.PlanCall.{PlanCall}
use Rattle.tb_plan_front.specs.Promise.Plans.{Asked}

abbrev pub plan_asked : PlanCall → Asked
plan_asked c =
    record { root = tree_of c.root; pivot = option_map pivot_view c.pivot; push = c.push }

abbrev pub given_texts : List NamedText → List (Name × List ℕ)
given_texts ts = map (λ (t : NamedText). (t.name, t.text.items)) ts
