use Rattle.std.proofs.Common.{◌∙◌, arith, ap}
use Rattle.std.specs.Option.{option_map}
use Rattle.std.proofs.lemmas.List.{take_all}
use Rattle.tb_frame.specs.Promise.Table.{table_of}
use Rattle.tb_node.specs.TableMaps.{columns_under}
use Rattle.tb_node.proofs.ByName.{given, given-table, kept_more}
use Rattle.tb_node.proofs.tables.TableMap.of.Goals as goal

pub loop-table-preserved : goal.loop-table-preserved
loop-table-preserved c =
    kept_more c.args.tables.now c.loop-table.table-index c.table-item.result c.loop-table-test.true c.table-item.is (columns_under c.loop-table.map) (columns_under c.insert.new.self) c.loop-table.invariant c.in_ok-insert.ensures

pub returns : goal.returns
returns c = λ n. ap (option_map table_of) (c.loop-table.invariant n ∙ ap (given n) (take_all c.loop-table.table-index c.args.tables.now (omega arith))) ∙ given-table n c.args.tables.now
