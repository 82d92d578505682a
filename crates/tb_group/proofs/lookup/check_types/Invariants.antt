use Rattle.std.proofs.Common.{◌≡◌, drop, map}
use Rattle.tb_value.specs.Promise.Refusals.{first_cause}
use Rattle.tb_group.specs.Asked.{asked_list, Asked}
use Rattle.tb_group.specs.Promise.Refusal.{type_cause}
use Rattle.tb_group.proofs.lookup.check_types.Given as goal

abbrev pub invariant-loop-one : goal.invariant-loop-one
invariant-loop-one l = first_cause (map (λ (a : Asked). type_cause a.0 a.1) (asked_list l.asked)) ≡ first_cause (map (λ (a : Asked). type_cause a.0 a.1) (asked_list (drop l.one-index l.asked)))
