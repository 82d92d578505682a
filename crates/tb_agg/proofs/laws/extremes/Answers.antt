use Rattle.tb_agg.proofs.Extremes.{greatest_is, least_is}
use Rattle.tb_agg.proofs.laws.extremes.Goals as goal

pub returns-clause-least : goal.returns-clause-least
returns-clause-least c = least_is

pub returns-clause-greatest : goal.returns-clause-greatest
returns-clause-greatest c = greatest_is
