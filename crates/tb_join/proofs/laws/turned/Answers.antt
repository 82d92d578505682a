use Rattle.tb_frame.proofs.Turns.{turned_request, order_turned, order_back}
use Rattle.tb_join.proofs.laws.turned.Goals as goal

pub returns-clause-listing : goal.returns-clause-listing
returns-clause-listing c = turned_request

pub returns-clause-order : goal.returns-clause-order
returns-clause-order c = λ q o ps. (order_turned q o ps, order_back q o ps)
