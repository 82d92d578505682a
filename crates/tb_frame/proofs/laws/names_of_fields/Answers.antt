use Rattle.tb_frame.proofs.JoinedNames.{names-fields}
use Rattle.tb_frame.proofs.laws.names_of_fields.Goals as goal

pub returns : goal.returns
returns c = names-fields
