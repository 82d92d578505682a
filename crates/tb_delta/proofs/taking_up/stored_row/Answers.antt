use Rattle.std.proofs.Common.{◌<◌, ◌∙◌, length, ap, arith}
use Rattle.std.proofs.lemmas.List.{length-map}
use Rattle.tb_value.specs.See.{datum}
use Rattle.tb_delta.proofs.Given.{long_cells, row_long}
use Rattle.tb_delta.proofs.Grouped.{keyed}
use Rattle.tb_delta.proofs.taking_up.stored_row.Goals as goal

pub row_at-requires : goal.row_at-requires
row_at-requires c = long_cells c.args.columns.now c.args.row c.requires.table c.requires.row

pub index-requires : goal.index-requires
index-requires c = omega (arith, c.requires.key, length-map c.in_ok-values.values.items datum, ap length c.in_ok-values.ensures, row_long c.args.columns.now c.args.row)

pub returns-clause-keyed : goal.returns-clause-keyed
returns-clause-keyed c =
    let low : c.args.key < length c.in_ok-values.values.items = omega (arith, c.requires.key, length-map c.in_ok-values.values.items datum, ap length c.in_ok-values.ensures, row_long c.args.columns.now c.args.row) in
    c.in_ok-key.ensures ∙ keyed c.in_ok-values.values.items c.args.key c.index.result.now low c.index.ensures
