use Rattle.std.proofs.Common.{◌∙◌, [], None, ap, get_or, map, rules}
use Rattle.tb_csv.specs.Read.{held_fields}
use Rattle.tb_csv.proofs.ColumnWalks.{held_at, held_column, held_row, text_at}
use Rattle.tb_csv.proofs.cells.text_at.Goals as goal

pub column_at-requires : goal.column_at-requires
column_at-requires c = rw c.deref.ensures.value (held_column c.args.part c.in-Columns.columns c.args.row c.in-Columns.is c.requires)

pub column_text-requires : goal.column_text-requires
column_text-requires c = rw (c.column_at.ensures, c.deref.ensures.value) (held_row c.args.part c.in-Columns.columns c.args.row c.in-Columns.is c.requires)

pub returns-in-Rows : goal.returns-in-Rows
returns-in-Rows c = search (rules, text_at)

pub returns-in-Columns : goal.returns-in-Columns
returns-in-Columns c =
    c.column_text.ensures ∙ ap (λ fs. get_or fs c.args.row None) c.column_at.ensures ∙ ap (λ cs. get_or (get_or (map held_fields cs) c.args.part.column []) c.args.row None) c.deref.ensures.value
    ∙ held_at c.args.part c.in-Columns.columns c.args.row c.in-Columns.is c.requires
