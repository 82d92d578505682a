use Rattle.std.proofs.Common.{◌≡◌, ◌∙◌, sym, subst}
use Rattle.tb_frame.specs.Promise.Table.{table_of}
use Rattle.tb_value.specs.declared.error.Side.TheVariants as side
use Rattle.tb_delta.specs.Groups.{ids_at}
use Rattle.tb_delta.specs.Inside.{AreRows, IsKept, state_of}
use Rattle.tb_delta.specs.Promise.State.{SideState, State, given}
use Rattle.tb_delta.proofs.Given.{kept_given}
use Rattle.tb_delta.proofs.view.taken_up.Goals as goal

pub invariant_of-result : goal.invariant_of-result
invariant_of-result c =
    let nulls = c.args.join_nulls in
    let l = table_of c.args.left.now in
    let r = table_of c.args.right.now in
    let is : state_of c.in_ok-left.left c.in_ok-right.right nulls ≡ given l r c.args.left_on c.args.right_on nulls =
    λ t. record { left = c.in_ok-left.ensures.state t; right = c.in_ok-right.ensures.state t; join_nulls = nulls } in
    record {
      kept = subst (λ (s : State). IsKept s (ids_at c.add_keys-2.new.groups)) (sym is)
          (kept_given l r c.args.left_on c.args.right_on nulls (ids_at c.add_keys-2.new.groups) c.requires.left c.requires.right
          (subst (λ (s : SideState). AreRows s) c.in_ok-left.ensures.state c.in_ok-left.ensures.kept)
          (subst (λ (s : SideState). AreRows s) c.in_ok-right.ensures.state c.in_ok-right.ensures.kept)
          (λ k. c.in_ok-add_keys-2.ensures side.Left k ∙ c.in_ok-add_keys.ensures side.Left k)
          (λ k. c.in_ok-add_keys-2.ensures side.Right k)
          c.requires.valid);
      left_placed = c.in_ok-left.ensures.placed;
      right_placed = c.in_ok-right.ensures.placed;
    }
