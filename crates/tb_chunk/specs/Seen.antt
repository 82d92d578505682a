-- What the chunks of a column show.
use Rattle.std.specs.Prelude.{List, map, replicate, pos}
use Rattle.tb_value.specs.Promise.Datum.{Datum, null, boolean, int, string, binary, list, struct, items_of}
use Rattle.tb_value.specs.Promise.Kind.{Kind}
use Rattle.tb_value.specs.Promise.Kind as kind
use Rattle.tb_cell.specs.Shown.{or_null}
use Rattle.tb_chunk.specs.ChunkTexts.{texts_of, bytes_of}
use Rattle.tb_chunk.specs.declared.chunks.Chunks.{Chunks}
use Rattle.tb_chunk.specs.declared.chunks.Chunks.TheVariants.{BooleanType, Int8Type, Int16Type, Int32Type, Int64Type, Int128Type, UInt8Type, UInt16Type, UInt32Type, UInt64Type, StringType, BinaryType, ListType, StructType, Null}

-- the values of each chunk
abbrev pub chunk_lists : Chunks → List (List Datum)
chunk_lists (BooleanType v) = map (λ c. map (or_null boolean) c) v.items
chunk_lists (Int8Type v) = map (λ c. map (or_null int) c) v.items
chunk_lists (Int16Type v) = map (λ c. map (or_null int) c) v.items
chunk_lists (Int32Type v) = map (λ c. map (or_null int) c) v.items
chunk_lists (Int64Type v) = map (λ c. map (or_null int) c) v.items
chunk_lists (Int128Type v) = map (λ c. map (or_null int) c) v.items
chunk_lists (UInt8Type v) = map (λ c. map (or_null (λ n. int (pos n))) c) v.items
chunk_lists (UInt16Type v) = map (λ c. map (or_null (λ n. int (pos n))) c) v.items
chunk_lists (UInt32Type v) = map (λ c. map (or_null (λ n. int (pos n))) c) v.items
chunk_lists (UInt64Type v) = map (λ c. map (or_null (λ n. int (pos n))) c) v.items
chunk_lists (StringType v) = map (λ c. map (or_null string) (texts_of c)) v.items
chunk_lists (BinaryType v) = map (λ c. map (or_null binary) (bytes_of c)) v.items
chunk_lists (ListType v) = map (λ c. map (or_null (λ vs. list (items_of vs))) c.inner) v.items
chunk_lists (StructType v) =
    map (λ c. map (or_null (λ s. struct (items_of s.values))) c.inner) v.items
chunk_lists (Null v) = map (λ n. replicate n null) v.items

-- the physical type that the variant is for
abbrev pub storage : Chunks → Kind
storage (BooleanType v) = kind.boolean
storage (Int8Type v) = kind.int8
storage (Int16Type v) = kind.int16
storage (Int32Type v) = kind.int32
storage (Int64Type v) = kind.int64
storage (Int128Type v) = kind.int128
storage (UInt8Type v) = kind.uint8
storage (UInt16Type v) = kind.uint16
storage (UInt32Type v) = kind.uint32
storage (UInt64Type v) = kind.uint64
storage (StringType v) = kind.string
storage (BinaryType v) = kind.binary
storage (ListType v) = kind.list kind.null
storage (StructType v) = kind.struct kind.end
storage (Null v) = kind.null
