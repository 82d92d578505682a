-- Columns as the rows of a piece are read from them.
use Rattle.std.specs.Prelude.{◌≡◌, ◌≤◌, ℕ, Bool, drop, length}
use Rattle.tb_chunk.specs.Promise.Col.{Col, concatenation, values}
use Rattle.tb_chunk.specs.Seen.{chunk_lists}
use Rattle.tb_chunk.specs.declared.chunks.Chunks.{Chunks}
use Rattle.tb_date.specs.Promise.Dates.{is_date}

-- the column has these chunks and is one of days or not, and so many of its rows stand before its chunk of this number
pub record IsSeenFrom (first before : ℕ) (is_day : Bool) (chunks : Chunks) (c : Col) : Type 0 where
  pub lists : chunk_lists chunks ≡ c.chunks
  pub day : is_date c.kind ≡ is_day
  pub chunk : first ≤ length c.chunks
  pub rows : drop before (values c) ≡ concatenation (drop first c.chunks)
