-- Columns whose values are cast to a type.
use Rattle.std.specs.Prelude.{ℕ, List, map}
use Rattle.std.specs.List.{All}
use Rattle.tb_value.specs.Promise.Datum.{Datum}
use Rattle.tb_value.specs.Promise.Kind.{Kind}
use Rattle.tb_value.specs.Promise.Typed.{HasType}
use Rattle.tb_value.specs.declared.sorted.IsSorted.TheVariants.{Not}
use Rattle.tb_chunk.specs.Promise.Col.{Col, values}
use Rattle.tb_chunk.specs.Promise.Made.{at_least_one}
use Rattle.tb_chunk.specs.Made.{IsOf}
use Rattle.tb_supertype.specs.Promise.Cast.{cast}

abbrev pub cast_values : Kind → Col → List Datum
cast_values t c = map (cast t) (values c)

-- cast to the type, each value is of it
abbrev pub CastsTo : Kind → Col → Type 0
CastsTo t c = All (HasType t) (cast_values t c)

-- the values of the columns, one column after another, cast to the type, in a chunk for each column
abbrev pub IsStacked : List ℕ → Kind → List Col → Col → Type 0
IsStacked n t cs d = IsOf n t (at_least_one (map (cast_values t) cs)) Not d
