use Rattle.std.proofs.Common.{◌≡◌, Some, ap, sym, string_bytes}
use Rattle.std.proofs.lemmas.Result.{IfOk-weaker}
use Rattle.tb_json.specs.Promise.Text as texts
use Rattle.tb_delta_request.specs.Lent.{refusal_view}
use Rattle.tb_delta_request.specs.Promise.Answers.{Refusal, at_step, by_operation}
use Rattle.tb_delta_request.specs.Promise.Texts.{text_of_refusal}
use Rattle.tb_delta_request.proofs.texts.text_of_fault.Goals as goal

pub returns-in-Refused : goal.returns-in-Refused
returns-in-Refused c = IfOk-weaker c.text_of_refusal.result _ (λ s. (x : Refusal) × (refusal_view c.args.fault.now ≡ Some x) × (string_bytes s ≡ text_of_refusal x)) (λ s h. (by_operation c.in-Refused.error, ap refusal_view c.in-Refused.is, h)) c.text_of_refusal.ensures

pub returns-in-Stopped : goal.returns-in-Stopped
returns-in-Stopped c = IfOk-weaker c.text_of_step.result _ (λ s. (x : Refusal) × (refusal_view c.args.fault.now ≡ Some x) × (string_bytes s ≡ text_of_refusal x)) (λ s h. (at_step (c.in-Stopped.fault.step, c.in-Stopped.fault.fault), ap refusal_view c.in-Stopped.is, h)) c.text_of_step.ensures
