use denote.Param.Send.{sendable}
use Rattle.std.proofs.Crossing.{crosses}
use Rattle.tb_store.proofs.Crossing.{Column-send}
use Rattle.tb_front.proofs.reading.make_both.Goals as goal

pub join-requires-send-A : goal.join-requires-send-A
join-requires-send-A g c κs within = search (Column-send, crosses, sendable) depth 60 fits 20000
