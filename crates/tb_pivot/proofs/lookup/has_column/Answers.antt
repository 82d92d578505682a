use Rattle.std.proofs.Common.{◌∙◌, ap, is_some}
use Rattle.tb_value.specs.Promise.Names.{Name}
use Rattle.tb_frame.specs.Promise.Naming.{is_among}
use Rattle.tb_frame.specs.Promise.Table.{names_of, table_of}
use Rattle.tb_pivot.proofs.Causes.{place_of_name}
use Rattle.tb_pivot.proofs.lookup.has_column.Goals as goal

pub returns : goal.returns
returns c =
    c.is_some.ensures ∙ ap is_some c.position.ensures ∙ place_of_name c.as_str.result.now c.args.table.now
    ∙ ap (λ (n : Name). is_among (names_of (table_of c.args.table.now)) n) c.as_str.ensures
