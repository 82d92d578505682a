use Rattle.std.proofs.Common.{[], ◌∷◌, All, sym, subst}
use Rattle.tb_gather.specs.Gathered.{NameRows}
use Rattle.tb_join_tests.proofs.gathers.rows_of_array.Goals as goal

pub gathered-requires-clause-named : goal.gathered-requires-clause-named
gathered-requires-clause-named g c =
    subst (λ ids. All (NameRows ids) (c.in_ok-array.array ∷ [])) (sym c.deref.ensures.value)
    (subst (λ k. All (NameRows c.in_ok-by.by.items) (k ∷ [])) (sym c.in_ok-array.ensures.0) c.in_ok-by.ensures.named)
