-- Two tables of n rows, their join, and what is told of an answer to it.
use Rattle.std.specs.Prelude.{◌≡◌, IsSomeAnd}
use Rattle.tb_value.specs.Promise.Kind.{int64}
use Rattle.tb_value.specs.Promise.Names.{Name}
use Rattle.tb_frame.specs.Promise.Join.{column_named}
use Rattle.tb_frame.specs.Promise.Table.{Table}

-- a column of the table has this name, and is of type Int64
abbrev pub HasNumbers : Name → Table → Type 0
HasNumbers name t = IsSomeAnd (column_named t name) (λ c. c.kind ≡ int64)
