-- What an object of the tests answers.
use Rattle.std.specs.Prelude.{ℕ, List, [], ◌∷◌, length, map, unwrap_or, Result, Ok, Err}
use Rattle.tb_value.specs.Promise.Kind as kind
use Rattle.tb_value.specs.Promise.Pairs.{row_numbers}
use Rattle.tb_frame.specs.Promise.Table.{Table, TableColumn}
use Rattle.tb_agg.specs.Grouped.{values_of}
use Rattle.tb_agg.specs.Promise.Aggregates.{aggregate, result_kind}
use Rattle.tb_agg.specs.declared.table.Aggregate.TheVariants.{Sum}

-- the sum of a column's values for each group, of which the rows have these numbers
abbrev pub column_sums : TableColumn → List ℕ → List ℕ → TableColumn
column_sums c firsts numbers = record {
  name = c.name;
  kind = unwrap_or (result_kind Sum c.kind) kind.null;
  values = map (λ k. aggregate Sum (values_of numbers c.values k)) (row_numbers (length firsts));
}

-- those of the first column of a table
abbrev pub sums : Table → List ℕ → List ℕ → Result TableColumn ℕ
sums [] firsts numbers = Err 0
sums (c ∷ cs) firsts numbers = Ok (column_sums c firsts numbers)
