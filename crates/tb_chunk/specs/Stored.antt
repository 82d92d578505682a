-- The chunks that a column of a type has.
use Rattle.std.specs.Prelude.{◌≡◌, List, Result, Ok, Err}
use Rattle.tb_value.specs.Promise.Datum.{Datum}
use Rattle.tb_value.specs.Promise.Kind.{Kind}
use Rattle.tb_value.specs.declared.error.PolarsError.{PolarsError}
use Rattle.tb_chunk.specs.Promise.Made.{at_least_one}
use Rattle.tb_chunk.specs.Made.{IsTyped, IsShort, IsRefused}
use Rattle.tb_chunk.specs.Fresh.{or_one_view_array}
use Rattle.tb_chunk.specs.ChunkViewArrays.{chunk_view_arrays}
use Rattle.tb_chunk.specs.Seen.{chunk_lists, storage}
use Rattle.tb_view.specs.Promise.ViewArrays.{ViewArray}
use Rattle.tb_chunk.specs.declared.chunks.Chunks.{Chunks}

-- the chunks of these lists for a column of type t, stored by the type s, with these runs, or why there are none
abbrev pub AreMade : Kind → Kind → List (List Datum) → List ViewArray → Result Chunks PolarsError
    → Type 0
AreMade t s cs rs (Ok c) = IsTyped t cs
    × IsShort cs
    × (chunk_lists c ≡ at_least_one cs)
    × (storage c ≡ s)
    × (chunk_view_arrays c ≡ or_one_view_array rs)
AreMade t s cs rs (Err e) = IsRefused (IsTyped t cs) (IsShort cs) e
