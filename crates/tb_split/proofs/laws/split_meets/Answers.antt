use Rattle.tb_split.proofs.Meets.{meets, parted}
use Rattle.tb_split.proofs.laws.split_meets.Goals as goal

pub returns : goal.returns
returns c = λ l r left_on right_on args n some valid. (parted l r left_on right_on args n some valid, meets l r left_on right_on args n some valid)
