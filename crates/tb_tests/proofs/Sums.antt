-- Sums by groups, as a column.
use Rattle.std.proofs.Common.{◌≡◌, ◌∙◌, List, ap, Option, Some, None}
use Rattle.std.specs.Prelude.{IsSomeAnd, unwrap_or}
use Rattle.std.proofs.lemmas.List.{append-nil}
use Rattle.tb_value.specs.Promise.Datum.{Datum}
use Rattle.tb_value.specs.Promise.Kind.{Kind}
use Rattle.tb_value.specs.Promise.Kind as kind
use Rattle.tb_chunk.specs.Promise.Col.{Col, values}
use Rattle.tb_frame.specs.Promise.Table.{TableColumn, plain_column}
use Rattle.tb_rows.specs.declared.groups.Groups.{Groups}
use Rattle.tb_agg.specs.Grouped.{aggregates}
use Rattle.tb_agg.specs.Outcome.{IsAggColumn, IsAggregated}
use Rattle.tb_agg.specs.Promise.Aggregates.{result_kind}
use Rattle.tb_agg.specs.declared.table.Aggregate.TheVariants.{Sum}
use Rattle.tb_tests.specs.Sums.{column_sums}

pub are_sums : (g : Groups) (c made : Col) → IsAggregated Sum g c made → plain_column made ≡ column_sums (plain_column c) g.firsts.items g.numbers.items
are_sums g c made is = by (result_kind Sum c.kind) is
  where
    column : Kind → List Datum → TableColumn
    column t vs = record { name = c.name; kind = t; values = vs }

    by : (o : Option Kind) → IsSomeAnd o (λ t. IsAggColumn Sum g c t made) → plain_column made ≡ column (unwrap_or o kind.null) (aggregates Sum g (values c))
    by None h = absurd h
    by (Some t) h = ap plain_column h ∙ ap (column t) (append-nil (aggregates Sum g (values c)))
