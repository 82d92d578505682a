use Rattle.std.proofs.Common.{[], ◌∷◌, All, sym, subst}
use Rattle.tb_gather.specs.Gathered.{NameRows}
use Rattle.tb_join_tests.proofs.gathers.rows_of_table.Goals as goal

pub check_table-requires-clause-named : goal.check_table-requires-clause-named
check_table-requires-clause-named g c κs within =
    subst (λ ids. All (NameRows ids) c.in_ok-table.table) (sym c.deref.ensures.value)
    (subst (All (NameRows c.in_ok-by.by.items)) (sym c.in_ok-table.ensures)
    (subst (λ k. All (NameRows c.in_ok-by.by.items) (k ∷ [])) (sym c.into_column.ensures) c.in_ok-by.ensures.named))
