use Rattle.std.proofs.Common.{not, ap, sym, ◌∙◌, subst}
use Rattle.tb_frame.specs.Promise.Table.{Table, table_of, IsTable}
use Rattle.tb_frame.specs.Frame.{without_names}
use Rattle.tb_frame.specs.Promise.Naming.{is_among}
use Rattle.tb_frame.proofs.Frames.{IsTable-where, without-table}
use Rattle.tb_frame.proofs.frame.DataFrame.drop_many.Goals as goal

pub invariant_of-result : goal.invariant_of-result
invariant_of-result c =
    let names = c.args.names.now in
    let cs = c.self.inside.columns.items in
    subst (λ (t : Table). IsTable t) (sym (ap table_of (c.in_ok-other_columns.ensures ∙ ap (without_names names) c.deref.ensures.value) ∙ without-table names cs)) (IsTable-where (λ n. not (is_among names n)) (table_of cs) c.self.invariant)
