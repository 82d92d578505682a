use Rattle.std.proofs.Common.{◌≡◌, drop}
use Rattle.std.specs.Prelude.{is_some}
use Rattle.std.specs.List.{list_all}
use Rattle.serde_json.specs.Find.{as_str}
use Rattle.tb_tree.specs.View.{listed}
use Rattle.tb_why.proofs.forms.all_texts.Given as goal

-- the values that are left decide
abbrev pub invariant-loop-i : goal.invariant-loop-i
invariant-loop-i l = list_all (λ d. is_some (as_str d)) (listed l.items) ≡ list_all (λ d. is_some (as_str d)) (drop l.i (listed l.items))
