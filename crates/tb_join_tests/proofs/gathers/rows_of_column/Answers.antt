use Rattle.std.proofs.Common.{[], ◌∷◌, All, sym, subst}
use Rattle.tb_gather.specs.Gathered.{NameRows}
use Rattle.tb_join_tests.proofs.gathers.rows_of_column.Goals as goal

pub check_column-requires-clause-named : goal.check_column-requires-clause-named
check_column-requires-clause-named g c =
    subst (λ ids. All (NameRows ids) (c.into_column-column.result ∷ [])) (sym c.deref.ensures.value)
    (subst (λ k. All (NameRows c.in_ok-by.by.items) (k ∷ [])) c.as_materialized_series.ensures c.in_ok-by.ensures.named)
