use Rattle.std.proofs.Common.{ℕ, Bool, subst}
use Rattle.std.specs.Prelude.{IfOk}
use Rattle.tb_rows.specs.Grouped.{AreGroups}
use Rattle.tb_rows.proofs.OwnRows.{own_test}
use Rattle.tb_rows.proofs.grouping.group_rows.Goals as goal

pub returns : goal.returns
returns c = subst (λ (test : ℕ → ℕ → Bool). IfOk c.group_named.result (AreGroups test c.args.height)) (own_test _) c.group_named.ensures
