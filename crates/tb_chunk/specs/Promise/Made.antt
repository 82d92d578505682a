-- What a column is that is made of lists of values.
use Rattle.std.specs.Prelude.{ℕ, List, [], ◌∷◌}
use Rattle.tb_value.specs.Promise.Datum.{Datum}
use Rattle.tb_value.specs.Promise.Kind.{Kind}
use Rattle.tb_chunk.specs.Promise.Col.{Col}
use Rattle.tb_chunk.specs.Promise.Fresh.{fresh_view_arrays}
use Rattle.tb_value.specs.declared.sorted.IsSorted.{IsSorted}

-- no chunk at all makes one empty chunk
abbrev pub at_least_one : List (List Datum) → List (List Datum)
at_least_one [] = [] ∷ []
at_least_one (c ∷ cs) = c ∷ cs

-- the column of this name, type, chunks and flag, made of values
abbrev pub fresh_column : List ℕ → Kind → List (List Datum) → IsSorted → Col
fresh_column n t cs f =
    record { name = n; kind = t; chunks = cs; flag = f; view_arrays = fresh_view_arrays cs }
