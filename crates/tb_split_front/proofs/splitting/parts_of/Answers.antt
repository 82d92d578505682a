use Rattle.tb_frame.specs.Promise.Table.{table_of}
use Rattle.tb_split_front.proofs.Parted.{parted_settles, parted_some, parted_tables}
use Rattle.tb_split_front.proofs.splitting.parts_of.Goals as goal

pub returns-clause-settles : goal.returns-clause-settles
returns-clause-settles c =
    parted_settles c.args.call.now (table_of c.args.table) (table_of c.in_ok-table.table) c.deref.result.now c.get.result c.in_ok-table.ensures.table c.deref.ensures.value c.get.ensures.given c.split.result
    c.in_ok-table.ensures.settles c.split.ensures.settles

pub returns-clause-tables : goal.returns-clause-tables
returns-clause-tables c =
    parted_tables c.args.call.now (table_of c.args.table) (table_of c.in_ok-table.table) c.deref.result.now c.get.result c.in_ok-table.ensures.table c.deref.ensures.value c.get.ensures.given c.split.result
    c.split.ensures.tables

pub returns-clause-some : goal.returns-clause-some
returns-clause-some c =
    parted_some c.args.call.now (table_of c.args.table) (table_of c.in_ok-table.table) c.deref.result.now c.get.result c.in_ok-table.ensures.table c.deref.ensures.value c.get.ensures.given c.split.result
    c.get.ensures.some c.split.ensures.tables
