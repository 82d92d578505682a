use Rattle.std.proofs.Common.{◌≡◌, ◌∙◌, ◌++◌, Some, List, map, ap, Bor}
use Rattle.tb_value.specs.Promise.Names.{Name}
use Rattle.tb_frame.specs.Promise.Naming.{is_among, right_name}
use Rattle.tb_frame.specs.NameSets.{has_name}
use Rattle.tb_frame.proofs.joined_names.side_by_side.Goals as goal

pub returns : goal.returns
returns c =
    let now : List (Bor Name) → List Name = λ ns. map (λ (n : Bor Name). n.now) ns in
    let ns : List Name = now c.in_ok-kept.kept.items in
    let set : (n : Name) → has_name c.in_ok-taken.taken n ≡ is_among ns n = λ n. c.in_ok-taken.ensures n ∙ ap (λ (rs : List (Bor Name)). is_among (now rs) n) c.deref.ensures.value in
    let kept = c.in_ok-kept.ensures in
    let names = c.in_ok-names.ensures ∙ ap now c.deref-2.ensures.value ∙ kept in
    let shown = ap now c.deref-3.ensures.value ∙ c.in_ok-shown.ensures in
    c.in_ok-push_called.ensures ns set ∙ (λ t. names t ++ map (right_name (kept t) (Some c.args.suffix.now)) (shown t))
