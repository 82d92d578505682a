-- What a column is that is made of lists of values.
use Rattle.std.specs.Prelude.{◌≡◌, ◌≤◌, ℕ, List, length, map, Result, Ok, Err}
use Rattle.std.specs.List.{All}
use Rattle.tb_value.specs.Promise.Datum.{Datum}
use Rattle.tb_value.specs.Promise.Kind.{Kind}
use Rattle.tb_value.specs.See.{data_of}
use Rattle.tb_value.specs.Promise.Typed.{HasType}
use Rattle.tb_value.specs.declared.limits.TheConstants.{MAX_ROWS}
use Rattle.tb_value.specs.declared.any_value.AnyValue.{AnyValue}
use Rattle.std.specs.declared.vec.Vec.{Vec}
use Rattle.std.specs.declared.alloc.Global.{Global}
use Rattle.tb_chunk.specs.Promise.Col.{Col, concatenation}
use Rattle.tb_cell.specs.Physical.{physical}
use Rattle.tb_chunk.specs.Fresh.{or_one_view_array}
use Rattle.tb_view.specs.Promise.ViewArrays.{ViewArray}
use Rattle.tb_value.specs.declared.error.ComputeCause.TheVariants.{TooManyRows}
use Rattle.tb_value.specs.declared.error.PolarsError.{PolarsError}
use Rattle.tb_value.specs.declared.error.PolarsError.TheVariants.{ComputeError, SchemaMismatch, OutOfMemory}
use Rattle.tb_value.specs.declared.sorted.IsSorted.{IsSorted}
use Rattle.tb_value.specs.declared.sorted.IsSorted.TheVariants.{Not}
use Rattle.tb_chunk.specs.Promise.Made.{at_least_one, fresh_column}

-- the values of each list
abbrev pub lists_of : List (Vec AnyValue Global) → List (List Datum)
lists_of vs = map (λ v. data_of v.items) vs

-- a column of this name, type, chunks and flag, wherever its texts stand
abbrev pub IsOf : List ℕ → Kind → List (List Datum) → IsSorted → Col → Type 0
IsOf n t cs f c =
    c ≡ record { name = n; kind = t; chunks = cs; flag = f; view_arrays = c.view_arrays }

abbrev pub IsTyped : Kind → List (List Datum) → Type 0
IsTyped t cs = All (HasType t) (concatenation cs)

abbrev pub IsShort : List (List Datum) → Type 0
IsShort cs = length (concatenation cs) ≤ MAX_ROWS

-- why there is no column: a value of another type first, then too many values; want of memory at any time
abbrev pub IsRefused : Type 0 → Type 0 → PolarsError → Type 0
IsRefused typed short SchemaMismatch = ¬ typed
IsRefused typed short (ComputeError TooManyRows) = typed × ¬ short
IsRefused typed short OutOfMemory = Unit {0}
IsRefused typed short _ = ⊥

-- the column of this name and type and these chunks, or why there is none
abbrev pub IsMade : List ℕ → Kind → List (List Datum) → Result Col PolarsError → Type 0
IsMade n t cs (Ok c) = IsTyped t cs × IsShort cs × (c ≡ fresh_column n t (at_least_one cs) Not)
IsMade n t cs (Err e) = IsRefused (IsTyped t cs) (IsShort cs) e

-- the same of typed chunks, which are stored by the type s, with their runs
abbrev pub IsArranged : List ℕ → Kind → Kind → List (List Datum) → List ViewArray
    → Result Col PolarsError → Type 0
IsArranged n t s cs rs (Ok c) = (s ≡ physical t) × IsTyped t cs × IsShort cs
    × (c
    ≡ record
    { name = n; kind = t; chunks = at_least_one cs; flag = Not; view_arrays = or_one_view_array rs })
IsArranged n t s cs rs (Err e) = IsRefused ((s ≡ physical t) × IsTyped t cs) (IsShort cs) e
