use Rattle.tb_json.proofs.Plain.{refusal_from}
use Rattle.tb_json.proofs.write_refusals.text_of_refusal.Goals as goal

pub returns : goal.returns
returns c = refusal_from c.args.error.now _ _ _ c.in_ok-error_value.ensures c.in_ok-text.ensures.text c.in_ok-push_str.ensures.bytes
