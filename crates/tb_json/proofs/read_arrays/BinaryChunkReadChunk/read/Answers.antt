use Rattle.tb_value.specs.SeeKind.{kind_of}
use Rattle.tb_json.proofs.StoredTexts.{binary_alone}
use Rattle.tb_json.proofs.read_arrays.BinaryChunkReadChunk.read.Goals as goal

pub returns-clause-values : goal.returns-clause-values
returns-clause-values c = rw (binary_alone (kind_of c.args.dtype.now) c.requires) c.bytes_chunk.ensures.values

pub returns-clause-typed : goal.returns-clause-typed
returns-clause-typed c = rw (binary_alone (kind_of c.args.dtype.now) c.requires) c.bytes_chunk.ensures.typed
