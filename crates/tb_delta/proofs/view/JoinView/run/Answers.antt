use Rattle.std.proofs.Common.{sym, subst}
use Rattle.tb_value.specs.declared.error.Side.TheVariants as side
use Rattle.tb_delta.specs.Changing.{IsChanging}
use Rattle.tb_delta.specs.declared.groups.Groups.{Groups}
use Rattle.tb_delta.proofs.Changed.{from_view}
use Rattle.tb_delta.proofs.view.JoinView.run.Goals as goal

pub run_steps-lists-requires : goal.run_steps-lists-requires
run_steps-lists-requires c =
    subst (λ (g : Groups). IsChanging side.Left c.self.inside.left c.self.inside.right c.self.inside.join_nulls (record { groups = g; gone = c.new-gone.result })) (sym c.replace-groups.ensures.value)
    (from_view c.self.inside.left c.self.inside.right c.self.inside.join_nulls c.self.inside.groups c.new-gone.result c.self.invariant c.new-gone.ensures)
