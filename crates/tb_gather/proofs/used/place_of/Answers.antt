use Rattle.std.proofs.Common.{Some, subst, map}
use Rattle.tb_frame.specs.Frame.{lengths}
use Rattle.tb_gather.specs.Ids.{Id, NamesRow}
use Rattle.tb_gather.proofs.Kept.{row-low}
use Rattle.tb_gather.proofs.used.place_of.Goals as goal

pub long_buffer-requires : goal.long_buffer-requires
long_buffer-requires g c =
    let shown = g.C.Chunk.shown in
    let chunks = c.args.chunks.now in
    let named : NamesRow (lengths (map shown chunks)) (Some c.extract-chunk.result) = subst (λ (id : Id). NamesRow (lengths (map shown chunks)) id) c.extract-chunk.ensures c.requires.named in
    row-low shown chunks c.extract-chunk.result named c.index-chunks-chunk.result c.index-chunks-chunk.is
