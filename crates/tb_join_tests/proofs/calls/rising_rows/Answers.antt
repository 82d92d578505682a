use Rattle.std.proofs.Common.{All, sym, subst}
use Rattle.tb_gather.specs.Gathered.{NameRows}
use Rattle.tb_join_tests.proofs.calls.rising_rows.Goals as goal

pub left_rows-requires-clause-named : goal.left_rows-requires-clause-named
left_rows-requires-clause-named g c κs within =
    subst (λ ids. All (NameRows ids) c.args.table.now) (sym c.deref.ensures.value)
    (subst (All (NameRows c.in_ok-ids.ids.items)) (sym c.requires) c.in_ok-ids.ensures.named)
