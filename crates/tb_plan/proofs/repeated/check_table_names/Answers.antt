use Rattle.std.proofs.Common.{◌≡◌, ◌∙◌, List, ℕ, Some, inr, map, subst}
use Rattle.std.specs.Prelude.{◌⊎◌}
use Rattle.std.specs.Borrow.{Bor}
use Rattle.tb_value.specs.declared.error.PolarsError.{PolarsError}
use Rattle.tb_value.specs.declared.error.PolarsError.TheVariants as error
use Rattle.tb_frame.specs.Promise.Refusal.{repeated_among}
use Rattle.tb_plan.proofs.RepeatedNames.{none_repeated, one_repeated}
use Rattle.tb_plan.proofs.repeated.check_table_names.Goals as goal

pub returns-in-Ok : goal.returns-in-Ok
returns-in-Ok c =
    none_repeated c.args.tables.now (map (λ (n : Bor (List ℕ)). n.now) c.deref.result.now) ((λ t. map (λ (n : Bor (List ℕ)). n.now) (c.deref.ensures.value t)) ∙ c.in_ok-table_names.ensures) c.in-Ok.ensures

pub returns-in-Err-Duplicate : goal.returns-in-Err-Duplicate
returns-in-Err-Duplicate c =
    let names : List (List ℕ) = map (λ (n : Bor (List ℕ)). n.now) c.deref.result.now in
    inr
    (one_repeated c.args.tables.now names c.in-Err-Duplicate.name ((λ t. map (λ (n : Bor (List ℕ)). n.now) (c.deref.ensures.value t)) ∙ c.in_ok-table_names.ensures)
    (subst (λ (e : PolarsError). (e ≡ error.OutOfMemory) ⊎ (repeated_among names ≡ Some e)) c.in-Err-Duplicate.field-0-is c.in-Err-Duplicate.ensures))
