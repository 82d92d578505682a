-- What is refused where keys are merged.
use Rattle.std.proofs.Common.{◌≡◌, ◌∙◌, ap, sym, Bool, true, false, cond, Option, Some, None, inl, inr}
use Rattle.std.specs.Prelude.{◌⊎◌}
use Rattle.tb_value.specs.Promise.Refusals.{first_cause}
use Rattle.tb_value.specs.declared.error.PolarsError.{PolarsError}
use Rattle.tb_value.specs.declared.error.PolarsError.TheVariants.{OutOfMemory}
use Rattle.tb_frame.specs.Promise.Refusal.{row_causes}
use Rattle.tb_pool.specs.Promise.ExecView.{ExecView}
use Rattle.tb_keys.specs.Asked.{asked_request}
use Rattle.tb_keys.specs.declared.request.LentRequest.{LentRequest}
use Rattle.tb_sorted.specs.Listed.{merge_refusal}
use Rattle.tb_sorted.specs.Path.{takes_merge_path}

refused_alike : (b : Bool) (cause : Option PolarsError) (e : PolarsError) → cond b cause None ≡ Some e → cause ≡ Some e
refused_alike true cause e h = h
refused_alike false cause e h = absurd (cc)

-- what refuses a merge refuses the request
pub merge_refuses : (r : LentRequest) (exec : ExecView) (e : PolarsError) → (e ≡ OutOfMemory) ⊎ (merge_refusal r exec ≡ Some e) → (e ≡ OutOfMemory) ⊎ (first_cause (row_causes (asked_request r)) ≡ Some e)
merge_refuses r exec e (inl want) = inl want
merge_refuses r exec e (inr h) = inr (refused_alike (takes_merge_path r exec) (first_cause (row_causes (asked_request r))) e h)

-- what refuses no merge refuses no request
pub merge_allows : (r : LentRequest) (exec : ExecView) → takes_merge_path r exec ≡ true → merge_refusal r exec ≡ None → first_cause (row_causes (asked_request r)) ≡ None
merge_allows r exec taken none = sym (ap (λ (b : Bool). cond b (first_cause (row_causes (asked_request r))) None) taken) ∙ none
