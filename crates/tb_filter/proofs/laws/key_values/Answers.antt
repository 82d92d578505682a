use Rattle.tb_filter.proofs.KeyValues.{key_values}
use Rattle.tb_filter.proofs.laws.key_values.Goals as goal

pub returns : goal.returns
returns c = key_values
