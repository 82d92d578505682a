use Rattle.std.proofs.Common.{◌∙◌, arith, ap, option_map, sym}
use Rattle.std.proofs.lemmas.List.{take_all}
use Rattle.tb_frame.specs.NamedColumns.{column_by}
use Rattle.tb_frame.specs.Promise.Table.{plain_column}
use Rattle.tb_frame.proofs.ByName.{inserted, kept_more}
use Rattle.tb_frame.proofs.Selected.{found, named-plain}
use Rattle.tb_front.proofs.keys.columns_by_name.Goals as goal

pub loop-column-preserved : goal.loop-column-preserved
loop-column-preserved c =
    kept_more c.args.columns.now c.loop-column.column-index c.column-item.result c.loop-column-test.true c.column-item.is (column_by c.loop-column.by_name) (column_by c.insert.new.self) c.loop-column.invariant
    (inserted (column_by c.loop-column.by_name) (column_by c.insert.new.self) c.column-item.result c.name.result.now c.as_materialized_series.result.now c.name.ensures c.as_materialized_series.ensures c.in_ok-insert.ensures.puts)

pub returns : goal.returns
returns c = λ n.
    ap (option_map plain_column) (c.loop-column.invariant n ∙ ap (found n) (take_all c.loop-column.column-index c.args.columns.now (omega arith)))
    ∙ sym (named-plain n c.args.columns.now)
