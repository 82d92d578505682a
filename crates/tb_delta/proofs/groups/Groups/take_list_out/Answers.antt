use Rattle.std.proofs.Common.{rules, ◌≡◌, ◌∙◌, ◌&&◌, if◌then◌else◌, ap, sym, subst, List, ℕ}
use Rattle.std.specs.List.Sorted.{IsNonDecreasing}
use Rattle.std.proofs.lemmas.List.Sorted.{IsNonDecreasingBy-from_sort}
use Rattle.tb_value.specs.See.{datum}
use Rattle.tb_delta.specs.Groups.{ids_at, is_side, ties, without_all}
use Rattle.tb_delta.proofs.LateIds.{same_gone}
use Rattle.tb_delta.proofs.groups.Groups.take_list_out.Goals as goal

pub take_out-requires-clause-in_order : goal.take_out-requires-clause-in_order
take_out-requires-clause-in_order c =
    subst (λ (l : List ℕ). IsNonDecreasing l) (sym c.deref.ensures.value) (IsNonDecreasingBy-from_sort (λ x. x) c.sort_unstable.new.self.items c.sort_unstable.ensures.sorted)

pub returns : goal.returns
returns c = λ s k.
    let before : List ℕ = ids_at c.args.self.now s k in
    c.take_out.ensures s k
    ∙ ap (λ (l : List ℕ). if is_side c.args.side s && ties (datum c.args.key.now.value) (datum k.value) then l else before)
    (ap (λ (l : List ℕ). without_all l before) c.deref.ensures.value
    ∙ same_gone c.args.gone.items c.sort_unstable.new.self.items before c.sort_unstable.ensures.permutation)
