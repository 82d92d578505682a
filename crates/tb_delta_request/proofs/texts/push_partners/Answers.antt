use Rattle.std.proofs.Common.{map, refl}
use Rattle.tb_json.proofs.Runs.{array_text}
use Rattle.tb_delta.specs.Running.{lists_of}
use Rattle.tb_delta_request.specs.Promise.Texts.{ids_data}
use Rattle.tb_delta_request.proofs.texts.push_partners.Goals as goal

pub returns : goal.returns
returns c = array_text (map ids_data (lists_of c.args.lists.now)) _ _ _ _ _ refl c.in_ok-push_str.ensures.bytes c.in_ok-push_lists.ensures c.in_ok-push_str-2.ensures.bytes
