-- What contracts see of a column.
use Rattle.std.specs.Prelude.{ℕ, List}
use Rattle.std.specs.List.{flat_map}
use Rattle.tb_value.specs.Promise.Datum.{Datum}
use Rattle.tb_value.specs.Promise.Kind.{Kind}
use Rattle.tb_value.specs.declared.sorted.IsSorted.{IsSorted}
use Rattle.tb_view.specs.Promise.ViewArrays.{ViewArray}

-- a name, a type, the values of each chunk, the flag, and the views and buffers of the texts of each chunk
pub record Col : Type 0 where
  pub name : List ℕ
  pub kind : Kind
  pub chunks : List (List Datum)
  pub flag : IsSorted
  pub view_arrays : List ViewArray

-- lists, one after another
abbrev pub concatenation : List (List Datum) → List Datum
concatenation = flat_map (λ vs. vs)

-- the values of all chunks, in order
abbrev pub values : Col → List Datum
values c = concatenation c.chunks
