use denote.Param.Send.{sendable}
use Rattle.std.proofs.Crossing.{crosses}
use Rattle.tb_store.proofs.Crossing.{Column-sync}
use Rattle.tb_layout.proofs.pieces.push_rows.Goals as goal

pub push_row_pieces-requires-sync-F : goal.push_row_pieces-requires-sync-F
push_row_pieces-requires-sync-F g c κs within = search (Column-sync, crosses, sendable) depth 60 fits 20000
