-- Chunks may be sent to other threads, and lent to them.
use denote.Param.Send.{IsSend, IsSync, sendable}
use Rattle.std.proofs.Crossing.{crosses}
use Rattle.tb_value.proofs.Crossing.{Values-send, Values-sync}
use Rattle.tb_chunk.specs.contracts.chunks.Chunks as Chunks
use Rattle.tb_chunk.specs.contracts.owned_chunks.ListChunk as ListChunk
use Rattle.tb_chunk.specs.contracts.owned_chunks.StructChunk as StructChunk

lists_send : IsSend ListChunk.the_row
lists_send = search (Values-send, crosses, sendable) depth 60 fits 20000

lists_sync : IsSync ListChunk.the_row
lists_sync = search (Values-sync, crosses, sendable) depth 60 fits 20000

structs_send : IsSend StructChunk.the_row
structs_send = search (Values-send, crosses, sendable) depth 60 fits 20000

structs_sync : IsSync StructChunk.the_row
structs_sync = search (Values-sync, crosses, sendable) depth 60 fits 20000

pub Chunks-send : IsSend Chunks.the_row
Chunks-send = search (lists_send, structs_send, crosses, sendable) depth 60 fits 20000

pub Chunks-sync : IsSync Chunks.the_row
Chunks-sync = search (lists_sync, structs_sync, crosses, sendable) depth 60 fits 20000
