use Rattle.tb_frame.specs.NameSets.{has_name}
use Rattle.tb_frame.specs.Promise.Naming.{is_among}
use Rattle.tb_frame.specs.Promise.Table.{table_of}
use Rattle.tb_front.specs.declared.fault.Comparison.TheVariants.{LeastOrGreatest}
use Rattle.tb_front.proofs.Undecimal.{alike_settles}
use Rattle.tb_group_front.specs.Promise.Grouped.{compared_names}
use Rattle.tb_group_front.proofs.comparing.check_extremes.Goals as goal

pub returns : goal.returns
returns c =
    alike_settles c.args.types.now LeastOrGreatest (has_name c.in_ok-names.names) (is_among (compared_names c.args.aggs.now)) (table_of c.args.table.now) c.check_undecimal.result
    c.in_ok-names.ensures c.check_undecimal.ensures
