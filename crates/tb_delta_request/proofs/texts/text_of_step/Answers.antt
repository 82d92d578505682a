use Rattle.tb_delta_request.proofs.KeptTexts.{step_from}
use Rattle.tb_delta_request.proofs.texts.text_of_step.Goals as goal

pub returns : goal.returns
returns c = step_from (c.args.fault.step, c.args.fault.fault) _ _ _ c.in_ok-step_value.ensures c.in_ok-text.ensures.text c.in_ok-push_str.ensures.bytes
