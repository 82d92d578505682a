use Rattle.std.proofs.Common.{◌≡◌, ◌∙◌, List, map, ap, sym, subst, Bor}
use Rattle.tb_value.specs.Promise.Names.{Name}
use Rattle.tb_value.specs.Refusals.{Settles}
use Rattle.tb_chunk.specs.Promise.Col.{Col}
use Rattle.tb_frame.specs.Promise.Naming.{has_right, joined_names}
use Rattle.tb_frame.specs.Promise.Refusal.{repeated_among}
use Rattle.tb_frame.specs.RightColumns.{beside, right_side}
use Rattle.tb_frame.specs.Sides.{of_kind}
use Rattle.tb_frame.specs.Promise.Table.{table_of, names_of}
use Rattle.tb_frame.proofs.JoinedNames.{names-joined, names-side}
use Rattle.tb_frame.proofs.joined_names.check_joined_names.Goals as goal

pub returns : goal.returns
returns c =
    let a = of_kind c.args.how c.args.args.now in
    let names : List Col → List Name = λ cs. names_of (table_of cs) in
    let now : List (Bor Name) → List Name = λ ns. map (λ (n : Bor Name). n.now) ns in
    let left : now c.deref.result.now ≡ names c.args.left.now = ap now c.deref.ensures.value ∙ c.in_ok-left.ensures in
    let right : now c.deref-2.result.now ≡ right_side a.how (names c.args.right.now) =
    ap now c.deref-2.ensures.value ∙ c.in_ok-right.ensures ∙ ap names c.right_side.ensures ∙ names-side (has_right a.how) c.args.right.now
    in
    let all : c.deref-3.result.now ≡ joined_names a c.args.left_on.now c.args.right_on.now (names c.args.left.now) (names c.args.right.now) =
    c.deref-3.ensures.value ∙ c.in_ok-names.ensures
    ∙ (λ t. beside (left t) (c.gone_left.ensures t) (right t) (c.gone_beside.ensures t) (c.suffix_of.ensures t))
    ∙ sym (names-joined (names c.args.left.now) (names c.args.right.now) c.args.left_on.now c.args.right_on.now a)
    in
    subst (λ (ns : List Name). Settles c.check_repeated.result (repeated_among ns)) all c.check_repeated.ensures
