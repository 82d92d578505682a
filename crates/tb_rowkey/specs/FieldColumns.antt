-- Columns whose fields are written, each in one chunk.
use Rattle.std.specs.Prelude.{◌≡◌, ◌==◌, List, length, Option, Some, None, if◌then◌else◌}
use Rattle.tb_value.specs.Promise.Datum.{Datum}
use Rattle.tb_value.specs.Promise.Kind.{Kind}
use Rattle.tb_chunk.specs.Promise.Col.{Col, values}
use Rattle.tb_chunk.specs.Col.{IsColumn, physical}
use Rattle.tb_chunk.specs.Lent.{in_one_chunk}
use Rattle.tb_rowkey.specs.StoredChunk.{chunk_kind, chunk_values}
use Rattle.tb_rowkey.specs.declared.stored_chunk.StoredChunk.{StoredChunk}

-- the type and the values of a column, however it is cut
abbrev pub typed_values : Col → Kind × List Datum
typed_values c = (c.kind, values c)

-- the same column in one chunk, where it has another number of chunks
abbrev pub joined_if_cut : Col → Option Col
joined_if_cut c = if length c.chunks == 1 then None else Some (in_one_chunk c)

-- the chunk has the values of the column, as its type is stored
pub record IsChunkOf (c : Col) (chunk : StoredChunk) : Type 0 where
  pub column : IsColumn c
  pub shown : chunk_values chunk ≡ values c
  pub stored : chunk_kind chunk ≡ physical c.kind
