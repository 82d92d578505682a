use Rattle.tb_parts.proofs.Listings.{in_all, in_part}
use Rattle.tb_parts.proofs.laws.listings.Goals as goal

pub returns-clause-each : goal.returns-clause-each
returns-clause-each c = λ how l r m left right meet p. in_part l r m left right meet p how

pub returns-clause-all : goal.returns-clause-all
returns-clause-all c = λ how l r m left right n meet low_left low_right. in_all l r m left right n low_left low_right meet how
