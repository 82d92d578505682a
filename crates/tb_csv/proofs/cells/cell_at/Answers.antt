use Rattle.std.proofs.Common.{◌∙◌, [], None, ap, get_or, map}
use Rattle.tb_csv.specs.Read.{held_fields}
use Rattle.tb_csv.specs.Promise.Types.{cell_value}
use Rattle.tb_csv.proofs.ColumnWalks.{held_at, held_column, held_row, text_at}
use Rattle.tb_csv.proofs.cells.cell_at.Goals as goal

pub column_at-requires : goal.column_at-requires
column_at-requires g c = rw c.deref.ensures.value (held_column c.args.part c.in-Columns.columns c.args.row c.in-Columns.is c.requires.row)

pub column_cell-requires-clause-row : goal.column_cell-requires-clause-row
column_cell-requires-clause-row g c = rw (c.column_at.ensures, c.deref.ensures.value) (held_row c.args.part c.in-Columns.columns c.args.row c.in-Columns.is c.requires.row)

pub returns-in-Rows-clause-value : goal.returns-in-Rows-clause-value
returns-in-Rows-clause-value g c =
    c.cell_in.ensures.value ∙ ap (cell_value c.args.field_type) (c.get.ensures ∙ text_at c.args.part c.in-Rows.texts c.args.row c.in-Rows.is c.requires.row)

pub returns-in-Columns-clause-value : goal.returns-in-Columns-clause-value
returns-in-Columns-clause-value g c =
    c.column_cell.ensures.value
    ∙ ap (cell_value c.args.field_type) (ap (λ fs. get_or fs c.args.row None) c.column_at.ensures ∙ ap (λ cs. get_or (get_or (map held_fields cs) c.args.part.column []) c.args.row None) c.deref.ensures.value
    ∙ held_at c.args.part c.in-Columns.columns c.args.row c.in-Columns.is c.requires.row)
