use Rattle.std.proofs.Common.{map, refl}
use Rattle.tb_json.proofs.Runs.{array_text}
use Rattle.tb_delta_request.specs.Promise.Texts.{id_data}
use Rattle.tb_delta_request.proofs.texts.push_list.Goals as goal

pub returns : goal.returns
returns c = array_text (map id_data c.args.ids.now) _ _ _ _ _ refl c.in_ok-push_str.ensures.bytes c.in_ok-push_ids.ensures c.in_ok-push_str-2.ensures.bytes
