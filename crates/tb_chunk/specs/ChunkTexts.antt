-- The texts of a chunk of texts or of bytes, over its own buffers.
use Rattle.std.specs.Prelude.{ℕ, List, Option}
use Rattle.tb_view.specs.View.{texts}
use Rattle.tb_chunk.specs.declared.chunk.StringChunk.{StringChunk}
use Rattle.tb_chunk.specs.declared.owned_chunks.BinaryChunk.{BinaryChunk}

-- the text of each row, none of Null
abbrev pub texts_of : StringChunk → List (Option (List ℕ))
texts_of c = texts c.inner.buffers.items c.inner.views.items

-- the bytes of each row, none of Null
abbrev pub bytes_of : BinaryChunk → List (Option (List ℕ))
bytes_of c = texts c.inner.buffers.items c.inner.views.items
