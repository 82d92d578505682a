use Rattle.std.proofs.Common.{◌<◌, arith, length}
use Rattle.tb_chunk.specs.Seen.{chunk_lists}
use Rattle.tb_pieces.proofs.PieceWalks.{length_passed, rows_passed}
use Rattle.tb_pieces.proofs.piece_column.first_chunk.Goals as goal

pub loop-chunk-preserved : goal.loop-chunk-preserved
loop-chunk-preserved c =
    let lists = chunk_lists c.args.chunks.now in
    let low : c.loop-chunk.chunk < length lists = omega (arith, c.loop-chunk-test.true, c.count-chunk-end.ensures.count) in
    record {
      rows = rows_passed lists c.loop-chunk.chunk c.loop-chunk.before c.rows_of.result low c.rows_of.ensures c.loop-chunk.invariant.rows;
      all = omega (arith, c.loop-chunk.invariant.all, length_passed lists c.loop-chunk.chunk c.rows_of.result low c.rows_of.ensures);
    }
