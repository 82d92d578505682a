use Rattle.std.proofs.Common.{◌∙◌, Bor, ap, sym}
use Rattle.std.proofs.lemmas.List.{length-map}
use Rattle.tb_value.specs.Promise.Names.{Name}
use Rattle.tb_value.specs.SeeKind.{kind_of}
use Rattle.tb_chunk.specs.Promise.Col.{Col}
use Rattle.tb_chunk.specs.Lent.{lent_columns}
use Rattle.tb_frame.specs.Promise.Table.{plain_column, table_of}
use Rattle.tb_unpivot.specs.Promise.Unpivot.{value_column, variable_column}
use Rattle.tb_unpivot.proofs.Lists.{long_made}
use Rattle.tb_unpivot.proofs.columns.long_columns.Goals as goal

pub returns : goal.returns
returns c =
    let on = table_of (lent_columns c.args.on.now) in
    let t = kind_of c.args.dtype in
    long_made t _ on (table_of (lent_columns c.args.index.now)) c.args.variable.now c.args.value.now c.in_ok-columns.columns.items _ _ c.in_ok-variable_column.field-0 c.in_ok-value_column.field-0
    (sym (length-map (lent_columns c.args.on.now) plain_column ∙ length-map c.args.on.now (λ (b : Bor Col). b.now)))
    c.in_ok-columns.ensures c.in_ok-push.ensures.items c.in_ok-push-2.ensures.items
    (c.in_ok-variable_column.ensures ∙ ap (λ (n : Name). variable_column n on) c.in_ok-from_str.ensures)
    (c.in_ok-value_column.ensures ∙ ap (λ (n : Name). value_column n t on) c.in_ok-from_str-2.ensures)
