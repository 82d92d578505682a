use Rattle.std.proofs.Common.{None, get_or}
use Rattle.tb_view.proofs.Held.{Holds-at, StandsAt-from}
use Rattle.tb_chunk.proofs.growing.Growing.push.Goals as goal

pub push_from-requires-clause-held : goal.push_from-requires-clause-held
push_from-requires-clause-held g c =
    let buffers = g.C.Chunk.buffers in
    let all = buffers c.args.self.now.chunk in
    let other = c.index-chunks-chunk.result in
    let held = Holds-at buffers all c.args.self.now.bases.items c.args.chunks.now c.args.chunk c.index.result.now other c.requires.chunk c.index.ensures c.index-chunks-chunk.is c.requires.held in
    rw c.number_from-number.ensures (StandsAt-from all c.index.result.now (buffers other) (get_or (g.C.Chunk.views other) c.args.row None) held)
