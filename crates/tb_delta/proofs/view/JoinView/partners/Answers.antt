use Rattle.std.proofs.Common.{◌∙◌, ap, sym}
use Rattle.tb_value.specs.declared.error.Side.{Side}
use Rattle.tb_value.specs.declared.error.Side.TheVariants as side
use Rattle.tb_delta.specs.Inside.{agreeing, side_state, state_of}
use Rattle.tb_delta.specs.Promise.Now.{partners}
use Rattle.tb_delta.specs.Promise.State.{State}
use Rattle.tb_delta.proofs.Partners.{partners_are}
use Rattle.tb_delta.proofs.view.JoinView.partners.Goals as goal

pub returns-in-Left : goal.returns-in-Left
returns-in-Left c =
    let x = c.self.invariant in
    c.partners_of.ensures (agreeing c.self.inside.join_nulls (side_state c.self.inside.right)) (λ k. x.kept.grouped side.Right k)
    ∙ partners_are (state_of c.self.inside.left c.self.inside.right c.self.inside.join_nulls) c.self.inside.left.key c.self.inside.right.key x.left_placed.place x.right_placed.place side.Left c.args.id
    ∙ ap (λ (v : State). partners v side.Left c.args.id) c.self.view_is
    ∙ ap (λ (d : Side). partners c.args.self.now d c.args.id) (sym c.in-Left.is)

pub returns-in-Right : goal.returns-in-Right
returns-in-Right c =
    let x = c.self.invariant in
    c.partners_of-in-Right.ensures (agreeing c.self.inside.join_nulls (side_state c.self.inside.left)) (λ k. x.kept.grouped side.Left k)
    ∙ partners_are (state_of c.self.inside.left c.self.inside.right c.self.inside.join_nulls) c.self.inside.left.key c.self.inside.right.key x.left_placed.place x.right_placed.place side.Right c.args.id
    ∙ ap (λ (v : State). partners v side.Right c.args.id) c.self.view_is
    ∙ ap (λ (d : Side). partners c.args.self.now d c.args.id) (sym c.in-Right.is)
