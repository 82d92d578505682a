-- Facts on what the chunks of a column hold of texts.
use Rattle.std.proofs.Common.{arith, ◌≤◌, ◌∙◌, ℕ, List, [], Option, None, length, map, replicate, sym, pos}
use Rattle.std.proofs.lemmas.List.{length-map, length-replicate}
use Rattle.tb_value.specs.Promise.Datum.{Datum, null, boolean, int, string, binary, list, struct, items_of}
use Rattle.tb_cell.specs.Shown.{or_null}
use Rattle.tb_chunk.specs.Fresh.{no_views}
use Rattle.tb_chunk.specs.ChunkViewArrays.{chunk_view_arrays}
use Rattle.tb_chunk.specs.Seen.{chunk_lists}
use Rattle.tb_view.specs.View.{row_text, texts}
use Rattle.tb_view.specs.ViewArrays.{AreViewed, HaveFewBuffers, view_arrays_of}
use Rattle.tb_chunk.specs.declared.chunks.Chunks.{Chunks}
use Rattle.tb_chunk.specs.declared.chunks.Chunks.TheVariants.{BooleanType, Int8Type, Int16Type, Int32Type, Int64Type, Int128Type, UInt8Type, UInt16Type, UInt32Type, UInt64Type, StringType, BinaryType, ListType, StructType, Null}
use Rattle.tb_view.specs.declared.view.View.{View}
use Rattle.tb_chunk.proofs.Few.{one_few}
use Rattle.tb_view.proofs.ViewArrays.{runs_viewed}

-- cells of type N, which a chunk of type C holds
cells_viewed : {C N : Type 0} (cells : C → List (Option N)) (shows : N → Datum) (cs : List C) → AreViewed (map (λ c. map (or_null shows) (cells c)) cs) (map (λ c. no_views (cells c)) cs)
cells_viewed cells shows cs =
    runs_viewed (λ c. map (or_null shows) (cells c)) (λ c. map (λ _. None) (cells c)) (λ _. [])
    (λ c. length-map (cells c) (λ _. None) ∙ sym (length-map (cells c) (or_null shows))) cs

texts_viewed : {C : Type 0} (views : C → List (Option View)) (buffers : C → List (List ℕ)) (shows : List ℕ → Datum) (cs : List C) → AreViewed (map (λ c. map (or_null shows) (texts (buffers c) (views c))) cs) (view_arrays_of views buffers cs)
texts_viewed views buffers shows cs =
    runs_viewed (λ c. map (or_null shows) (texts (buffers c) (views c))) views buffers
    (λ c. sym (length-map (texts (buffers c) (views c)) (or_null shows) ∙ length-map (views c) (row_text (buffers c)))) cs

-- the chunks of a column have as many views as values
pub chunks_viewed : (c : Chunks) → AreViewed (chunk_lists c) (chunk_view_arrays c)
chunks_viewed (BooleanType v) = cells_viewed (λ c. c) boolean v.items
chunks_viewed (Int8Type v) = cells_viewed (λ c. c) int v.items
chunks_viewed (Int16Type v) = cells_viewed (λ c. c) int v.items
chunks_viewed (Int32Type v) = cells_viewed (λ c. c) int v.items
chunks_viewed (Int64Type v) = cells_viewed (λ c. c) int v.items
chunks_viewed (Int128Type v) = cells_viewed (λ c. c) int v.items
chunks_viewed (UInt8Type v) = cells_viewed (λ c. c) (λ n. int (pos n)) v.items
chunks_viewed (UInt16Type v) = cells_viewed (λ c. c) (λ n. int (pos n)) v.items
chunks_viewed (UInt32Type v) = cells_viewed (λ c. c) (λ n. int (pos n)) v.items
chunks_viewed (UInt64Type v) = cells_viewed (λ c. c) (λ n. int (pos n)) v.items
chunks_viewed (StringType v) = texts_viewed (λ c. c.inner.views.items) (λ c. c.inner.buffers.items) string v.items
chunks_viewed (BinaryType v) = texts_viewed (λ c. c.inner.views.items) (λ c. c.inner.buffers.items) binary v.items
chunks_viewed (ListType v) = cells_viewed (λ c. c.inner) (λ vs. list (items_of vs)) v.items
chunks_viewed (StructType v) = cells_viewed (λ c. c.inner) (λ s. struct (items_of s.values)) v.items
chunks_viewed (Null v) =
    runs_viewed (λ n. replicate n null) (λ n. replicate n None) (λ _. [])
    (λ n. length-replicate n None ∙ sym (length-replicate n null)) v.items

-- the cells of at most one chunk have no buffers
cells_few : {C N : Type 0} (cells : C → List (Option N)) (shows : N → Datum) (cs : List C) → length (map (λ c. map (or_null shows) (cells c)) cs) ≤ 1 → HaveFewBuffers (map (λ c. no_views (cells c)) cs)
cells_few cells shows cs one = one_few (λ c. map (λ _. None) (cells c)) (λ _. []) (λ c. map (or_null shows) (cells c)) (λ _. omega arith) cs one

-- at most one chunk has few buffers
pub one_chunk_few : (c : Chunks) → length (chunk_lists c) ≤ 1 → HaveFewBuffers (chunk_view_arrays c)
one_chunk_few (BooleanType v) one = cells_few (λ c. c) boolean v.items one
one_chunk_few (Int8Type v) one = cells_few (λ c. c) int v.items one
one_chunk_few (Int16Type v) one = cells_few (λ c. c) int v.items one
one_chunk_few (Int32Type v) one = cells_few (λ c. c) int v.items one
one_chunk_few (Int64Type v) one = cells_few (λ c. c) int v.items one
one_chunk_few (Int128Type v) one = cells_few (λ c. c) int v.items one
one_chunk_few (UInt8Type v) one = cells_few (λ c. c) (λ n. int (pos n)) v.items one
one_chunk_few (UInt16Type v) one = cells_few (λ c. c) (λ n. int (pos n)) v.items one
one_chunk_few (UInt32Type v) one = cells_few (λ c. c) (λ n. int (pos n)) v.items one
one_chunk_few (UInt64Type v) one = cells_few (λ c. c) (λ n. int (pos n)) v.items one
one_chunk_few (StringType v) one = one_few (λ c. c.inner.views.items) (λ c. c.inner.buffers.items) (λ c. map (or_null string) (texts c.inner.buffers.items c.inner.views.items)) (λ c. c.inner.few) v.items one
one_chunk_few (BinaryType v) one = one_few (λ c. c.inner.views.items) (λ c. c.inner.buffers.items) (λ c. map (or_null binary) (texts c.inner.buffers.items c.inner.views.items)) (λ c. c.inner.few) v.items one
one_chunk_few (ListType v) one = cells_few (λ c. c.inner) (λ vs. list (items_of vs)) v.items one
one_chunk_few (StructType v) one = cells_few (λ c. c.inner) (λ s. struct (items_of s.values)) v.items one
one_chunk_few (Null v) one = one_few (λ n. replicate n None) (λ _. []) (λ n. replicate n null) (λ _. omega arith) v.items one
