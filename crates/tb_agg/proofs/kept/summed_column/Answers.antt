use Rattle.std.proofs.Common.{arith, map, refl}
use Rattle.std.proofs.lemmas.List.{length-map}
use Rattle.tb_value.specs.Promise.Datum.{int}
use Rattle.tb_value.specs.SeeKind.{kind_of}
use Rattle.tb_chunk.proofs.OneChunk.{one_chunk_is_column}
use Rattle.tb_agg.specs.Sums.{shown_sums}
use Rattle.tb_agg.proofs.Ranges.{typed_all}
use Rattle.tb_agg.proofs.kept.summed_column.Goals as goal

pub from_parts-requires-clause-column : goal.from_parts-requires-clause-column
from_parts-requires-clause-column c =
    let sums = shown_sums c.args.sums.now in
    let made = rw c.in-Some.is at c.in_ok-chunks.ensures in
    one_chunk_is_column _ (kind_of c.args.dtype) (map int sums) (omega (arith, length-map sums int, c.requires.few))
    (typed_all (kind_of c.args.dtype) sums made.0) refl made.2 refl
