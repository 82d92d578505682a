use Rattle.std.proofs.Common.{List, subst}
use Rattle.tb_rows.specs.Grouped.{AreGroups}
use Rattle.tb_frame.specs.Promise.Table.{TableColumn, table_of}
use Rattle.tb_pivot.specs.Promise.Pivot.{are_alike}
use Rattle.tb_frame.specs.Promise.Join.{columns_named}
use Rattle.tb_pivot.proofs.Alike.{lent_groups}
use Rattle.tb_pivot.proofs.Causes.{columns_found}
use Rattle.tb_reshape.proofs.grouping.groups_by.Goals as goal

pub returns-clause-groups : goal.returns-clause-groups
returns-clause-groups c =
    let columns = c.in_ok-columns.columns.items in
    let found = columns_found c.args.table.now c.get_columns.result.now c.args.names.now columns c.get_columns.ensures.columns c.in_ok-columns.ensures.columns in
    let grouped = lent_groups c.deref.result.now columns c.height.result c.in_ok-group_rows.field-0 c.deref.ensures.value c.in_ok-group_rows.ensures in
    subst (λ n. AreGroups (are_alike (columns_named (table_of c.args.table.now) c.args.names.now)) n c.in_ok-group_rows.field-0) c.height.ensures.height
    (subst (λ (cs : List TableColumn). AreGroups (are_alike cs) c.height.result c.in_ok-group_rows.field-0) found grouped)
