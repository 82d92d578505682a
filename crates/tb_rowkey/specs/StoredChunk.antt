-- The one chunk of a column.
use Rattle.std.specs.Prelude.{List, map, replicate, pos}
use Rattle.tb_value.specs.Promise.Datum.{Datum, null, boolean, int, string, binary, list, struct, items_of}
use Rattle.tb_value.specs.Promise.Kind.{Kind}
use Rattle.tb_value.specs.Promise.Kind as kind
use Rattle.tb_chunk.specs.Chunk.{or_null}
use Rattle.tb_chunk.specs.ChunkTexts.{texts_of, bytes_of}
use Rattle.tb_rowkey.specs.declared.stored_chunk.StoredChunk.{StoredChunk}
use Rattle.tb_rowkey.specs.declared.stored_chunk.StoredChunk.TheVariants as stored

-- its values
abbrev pub chunk_values : StoredChunk → List Datum
chunk_values (stored.Boolean c) = map (or_null boolean) c.now
chunk_values (stored.Int8 c) = map (or_null int) c.now
chunk_values (stored.Int16 c) = map (or_null int) c.now
chunk_values (stored.Int32 c) = map (or_null int) c.now
chunk_values (stored.Int64 c) = map (or_null int) c.now
chunk_values (stored.Int128 c) = map (or_null int) c.now
chunk_values (stored.UInt8 c) = map (or_null (λ n. int (pos n))) c.now
chunk_values (stored.UInt16 c) = map (or_null (λ n. int (pos n))) c.now
chunk_values (stored.UInt32 c) = map (or_null (λ n. int (pos n))) c.now
chunk_values (stored.UInt64 c) = map (or_null (λ n. int (pos n))) c.now
chunk_values (stored.String c) = map (or_null string) (texts_of c.now)
chunk_values (stored.Binary c) = map (or_null binary) (bytes_of c.now)
chunk_values (stored.List c) = map (or_null (λ vs. list (items_of vs))) c.now.inner
chunk_values (stored.Struct c) = map (or_null (λ s. struct (items_of s.values))) c.now.inner
chunk_values (stored.Null c) = replicate c.now null

-- the type by which they are stored
abbrev pub chunk_kind : StoredChunk → Kind
chunk_kind (stored.Boolean c) = kind.boolean
chunk_kind (stored.Int8 c) = kind.int8
chunk_kind (stored.Int16 c) = kind.int16
chunk_kind (stored.Int32 c) = kind.int32
chunk_kind (stored.Int64 c) = kind.int64
chunk_kind (stored.Int128 c) = kind.int128
chunk_kind (stored.UInt8 c) = kind.uint8
chunk_kind (stored.UInt16 c) = kind.uint16
chunk_kind (stored.UInt32 c) = kind.uint32
chunk_kind (stored.UInt64 c) = kind.uint64
chunk_kind (stored.String c) = kind.string
chunk_kind (stored.Binary c) = kind.binary
chunk_kind (stored.List c) = kind.list kind.null
chunk_kind (stored.Struct c) = kind.struct kind.end
chunk_kind (stored.Null c) = kind.null
