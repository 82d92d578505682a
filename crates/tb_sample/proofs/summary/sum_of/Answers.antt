use Rattle.std.proofs.Common.{◌∙◌, arith, ap}
use Rattle.std.proofs.lemmas.Int.{ints}
use Rattle.tb_agg.specs.Promise.Aggregates.{total}
use Rattle.tb_chunk.specs.Promise.Col.{Col, values}
use Rattle.tb_frame.proofs.Selected.{found}
use Rattle.tb_sample.proofs.Answered.{kind_is, some_column, sum_is}
use Rattle.tb_sample.proofs.summary.sum_of.Goals as goal

pub column_sum-requires : goal.column_sum-requires
column_sum-requires c =
    let there = c.in-Some.ensures ∙ ap (found c.args.name.now) c.get_columns.ensures.columns in
    ap (λ (k : Col). k.kind) c.as_materialized_series.ensures ∙ kind_is c.args.name.now c.args.table.now c.in-Some.column.now there c.requires

pub returns-in-Some : goal.returns-in-Some
returns-in-Some c =
    let there = c.in-Some.ensures ∙ ap (found c.args.name.now) c.get_columns.ensures.columns in
    let sum = sum_is c.args.name.now c.args.table.now c.in-Some.column.now there in
    let own = ap (λ (k : Col). total (values k)) c.as_materialized_series.ensures in
    let fits = c.column_sum.type_inv in
    let is = c.column_sum.ensures in
    omega (arith, ints)

pub returns-in-None : goal.returns-in-None
returns-in-None c =
    absurd (some_column c.args.name.now c.args.table.now c.requires (c.in-None.ensures ∙ ap (found c.args.name.now) c.get_columns.ensures.columns))
