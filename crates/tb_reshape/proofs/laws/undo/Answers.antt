use Rattle.tb_reshape.proofs.Accepted.{accepted}
use Rattle.tb_reshape.proofs.Back.{undone}
use Rattle.tb_reshape.proofs.laws.undo.Goals as goal

pub returns-clause-undone : goal.returns-clause-undone
returns-clause-undone c = undone

pub returns-clause-accepted : goal.returns-clause-accepted
returns-clause-accepted c = accepted
