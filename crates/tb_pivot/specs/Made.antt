-- One value for each group of rows, as each way makes it.
use Rattle.std.specs.Prelude.{◌≡◌, Bool, true, is_some, Option, None, Ok}
use Rattle.tb_value.specs.Promise.Kind.{Kind}
use Rattle.tb_value.specs.declared.error.PolarsError.{PolarsError}
use Rattle.tb_chunk.specs.Promise.Col.{Col}
use Rattle.tb_frame.specs.Promise.Table.{plain_column}
use Rattle.tb_rows.specs.declared.groups.Groups.{Groups}
use Rattle.tb_agg.specs.Promise.Aggregates.{result_kind}
use Rattle.tb_agg.specs.Outcome.{agg_refusal, IsAggColumn, IsAggregated}
use Rattle.tb_agg.specs.declared.table.Aggregate.TheVariants.{First}
use Rattle.tb_pivot.specs.Promise.Pivot.{answer_of}
use Rattle.tb_pivot.specs.Promise.Refusal.{refused_by}
use Rattle.tb_pivot.specs.Promise.Request.{Way, one_row, aggregated, asked}

-- whether cells are made of values of a type
abbrev pub takes : Way → Kind → Bool
takes (aggregated agg) t = is_some (result_kind agg t)
takes way t = true

-- why there is no column of one value for each group
abbrev pub made_cause : Way → Groups → Col → Option PolarsError
made_cause one_row g c = None
made_cause (aggregated agg) g c = agg_refusal agg g c
made_cause (asked name answers) g c =
    refused_by (answer_of g.firsts.items g.numbers.items (plain_column c) name answers)

-- the column of one value for each group: of its first row where it has one alone
abbrev pub IsMade : Way → Groups → Col → Col → Type 0
IsMade one_row g c made = IsAggColumn First g c c.kind made
IsMade (aggregated agg) g c made = IsAggregated agg g c made
IsMade (asked name answers) g c made =
    answer_of g.firsts.items g.numbers.items (plain_column c) name answers ≡ Ok (plain_column made)
