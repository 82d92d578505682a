use Rattle.std.proofs.Common.{◌≡◌, ◌∙◌, List, map, ap, sym, Bor}
use Rattle.tb_value.specs.Promise.Names.{Name}
use Rattle.tb_frame.specs.RightColumns.{beside, right_side}
use Rattle.tb_frame.proofs.JoinedNames.{names-answered}
use Rattle.tb_frame.proofs.joined_names.answer_names.Goals as goal

pub returns : goal.returns
returns c =
    let a = c.args.args.now in
    let now : List (Bor Name) → List Name = λ ns. map (λ (n : Bor Name). n.now) ns in
    let left : now c.deref.result.now ≡ c.args.left.now = ap now c.deref.ensures.value ∙ c.in_ok-left.ensures in
    let right : now c.deref-2.result.now ≡ right_side a.how c.args.right.now = ap now c.deref-2.ensures.value ∙ c.in_ok-right.ensures ∙ c.right_side.ensures in
    c.in_ok-names.ensures
    ∙ (λ t. beside (left t) (c.gone_left.ensures t) (right t) (c.gone_right.ensures t) (c.suffix_of.ensures t))
    ∙ sym (names-answered c.args.left.now c.args.right.now c.args.left_on.now c.args.right_on.now a)
