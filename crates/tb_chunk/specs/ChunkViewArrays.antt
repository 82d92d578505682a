-- What the chunks of a column hold of texts.
use Rattle.std.specs.Prelude.{List, [], None, map, replicate}
use Rattle.tb_chunk.specs.Fresh.{no_views}
use Rattle.tb_view.specs.Promise.ViewArrays.{ViewArray}
use Rattle.tb_chunk.specs.declared.chunks.Chunks.{Chunks}
use Rattle.tb_chunk.specs.declared.chunks.Chunks.TheVariants.{BooleanType, Int8Type, Int16Type, Int32Type, Int64Type, Int128Type, UInt8Type, UInt16Type, UInt32Type, UInt64Type, StringType, BinaryType, ListType, StructType, Null}

-- the views of each chunk, and the buffers that they stand over
abbrev pub chunk_view_arrays : Chunks → List ViewArray
chunk_view_arrays (BooleanType v) = map (λ c. no_views c) v.items
chunk_view_arrays (Int8Type v) = map (λ c. no_views c) v.items
chunk_view_arrays (Int16Type v) = map (λ c. no_views c) v.items
chunk_view_arrays (Int32Type v) = map (λ c. no_views c) v.items
chunk_view_arrays (Int64Type v) = map (λ c. no_views c) v.items
chunk_view_arrays (Int128Type v) = map (λ c. no_views c) v.items
chunk_view_arrays (UInt8Type v) = map (λ c. no_views c) v.items
chunk_view_arrays (UInt16Type v) = map (λ c. no_views c) v.items
chunk_view_arrays (UInt32Type v) = map (λ c. no_views c) v.items
chunk_view_arrays (UInt64Type v) = map (λ c. no_views c) v.items
chunk_view_arrays (StringType v) =
    map (λ c. record { views = c.inner.views.items; buffers = c.inner.buffers.items }) v.items
chunk_view_arrays (BinaryType v) =
    map (λ c. record { views = c.inner.views.items; buffers = c.inner.buffers.items }) v.items
chunk_view_arrays (ListType v) = map (λ c. no_views c.inner) v.items
chunk_view_arrays (StructType v) = map (λ c. no_views c.inner) v.items
chunk_view_arrays (Null v) = map (λ n. record { views = replicate n None; buffers = [] }) v.items
