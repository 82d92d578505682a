use Rattle.std.proofs.Common.{rules, ◌≡◌, ◌∙◌, ◌<◌, ◌≤◌, ℕ, sym, length, get_or, ap, subst, subst₂, List}
use Rattle.std.specs.Prelude.{MatchResult, Result}
use Rattle.std.proofs.lemmas.Map.Lookups.{exact_unsigned}
use Rattle.std.proofs.lemmas.List.Sorted.{searched}
use Rattle.tb_delta.proofs.Without.{not_found, removed_at, rising}
use Rattle.tb_delta.proofs.groups.take_out_one.Goals as goal

pub returns-in-Ok : goal.returns-in-Ok
returns-in-Ok c =
    let xs = c.args.ids.now.items in
    let at : get_or xs c.in-Ok.place 0 ≡ c.args.id = ap (λ ys. get_or ys c.in-Ok.place 0) (sym c.deref.ensures.value) ∙ exact_unsigned _ _ (c.in-Ok.ensures.ok 0) in
    let low : c.in-Ok.place < length xs = search rules in
    c.remove.ensures.by_index.2
    ∙ removed_at c.args.id xs c.in-Ok.place low at c.requires

pub returns-in_default : goal.returns-in_default
returns-in_default c =
    let xs = c.args.ids.now.items in
    let found = searched c.deref.result.now c.args.id c.binary_search.result c.binary_search.ensures.position (subst (λ (ys : List ℕ). (i j : ℕ) → i ≤ j → j < length ys → get_or ys i 0 ≤ get_or ys j 0) (sym c.deref.ensures.value) (rising xs c.requires)) in
    let apart = subst₂ (λ (ys : List ℕ) (r : Result ℕ ℕ). MatchResult r (λ i. (i < length ys) × (get_or ys i 0 ≡ c.args.id)) (λ i. (i ≤ length ys) × ((k : ℕ) → k < i → get_or ys k 0 < c.args.id) × ((k : ℕ) → i ≤ k → k < length ys → c.args.id < get_or ys k 0))) c.deref.ensures.value c.in_default.is found in
    not_found c.args.id xs c.in_default.field-0 apart.1 apart.2
