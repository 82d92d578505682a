use Rattle.std.proofs.Common.{◌++◌}
use Rattle.tb_chunk.specs.Lent.{lent_columns}
use Rattle.tb_frame.specs.Promise.Table.{table_of}
use Rattle.tb_pivot.proofs.Alike.{firsts_fit, groups_fit, others_fit}
use Rattle.tb_pivot.proofs.cells.Cells.grid.Goals as goal

pub grid_of-requires-clause-rows : goal.grid_of-requires-clause-rows
grid_of-requires-clause-rows c =
    let is = table_of (lent_columns c.args.columns.now.index.items) in
    let os = table_of (lent_columns c.args.columns.now.on.items) in
    let cells = c.requires.cells in
    others_fit (is ++ os) is c.args.height c.args.self.now.groups c.args.self.now.rows cells.groups cells.rows c.requires.few

pub grid_of-requires-clause-headers : goal.grid_of-requires-clause-headers
grid_of-requires-clause-headers c =
    let is = table_of (lent_columns c.args.columns.now.index.items) in
    let os = table_of (lent_columns c.args.columns.now.on.items) in
    let cells = c.requires.cells in
    others_fit (is ++ os) os c.args.height c.args.self.now.groups c.args.self.now.headers cells.groups cells.headers c.requires.few

pub grid_of-requires-clause-firsts : goal.grid_of-requires-clause-firsts
grid_of-requires-clause-firsts c =
    let is = table_of (lent_columns c.args.columns.now.index.items) in
    let os = table_of (lent_columns c.args.columns.now.on.items) in
    firsts_fit (is ++ os) c.args.height c.args.self.now.groups c.requires.cells.groups c.requires.few

pub grid_of-requires-clause-few : goal.grid_of-requires-clause-few
grid_of-requires-clause-few c =
    let is = table_of (lent_columns c.args.columns.now.index.items) in
    let os = table_of (lent_columns c.args.columns.now.on.items) in
    (groups_fit (is ++ os) c.args.height c.args.self.now.groups c.requires.cells.groups c.requires.few).few
