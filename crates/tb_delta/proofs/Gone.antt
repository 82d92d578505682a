-- Numbers of a list are taken out of others.
use Rattle.std.proofs.Common.{◌≡◌, ℕ, ◌<◌, ◌≤◌, Bool, true, false, cond, not, ◌||◌, nat_eq, List, [], ◌∷◌, ◌++◌, length, get_or, Result, Ok, Err, refl, ap, arith, sym, ◌∙◌, ⊎_elim, All}
use Rattle.std.specs.Prelude.{filter, MatchResult}
use Rattle.std.specs.List.{list_any}
use Rattle.std.specs.List.Sorted.{IsPermutation}
use Rattle.std.specs.Result.{is_err}
use Rattle.std.proofs.lemmas.List.Elements.{filter-append}
use Rattle.std.proofs.lemmas.List.{get_or_default}
use Rattle.std.specs.List.Sorted.{IsBinarySearchResult, IsNonDecreasing}
use Rattle.std.specs.Ordering.{nat_cmp}
use Rattle.std.proofs.lemmas.List.Sorted.{searched}
use Rattle.std.proofs.lemmas.List.Folds.{list_any-append, list_any_at, list_any_none}
use Rattle.std.proofs.lemmas.List.Sorted.{list_any-IsPermutation}
use Rattle.tb_delta.specs.Groups.{without, without_all}

or_false : (b : Bool) → (b || false) ≡ b
or_false true = refl
or_false false = refl

turned : (a b : ℕ) → nat_eq a b ≡ nat_eq b a
turned a b = grind (arith)

-- one alone
pub one_gone : (id : ℕ) (ids : List ℕ) → without id ids ≡ without_all (id ∷ []) ids
one_gone id ids = λ t. filter (λ i. not ((turned id i ∙ sym (or_false (nat_eq i id))) t)) ids

pub none_gone : (ids : List ℕ) → without_all [] ids ≡ ids
none_gone [] = refl
none_gone (x ∷ ids) = ap (λ l. x ∷ l) (none_gone ids)

-- what a search in ascending numbers tells
pub told_by_search : (gone : List ℕ) (id : ℕ) (r : Result ℕ ℕ)
    → MatchResult r (λ i. (i < length gone) × (get_or gone i 0 ≡ id)) (λ i. (i ≤ length gone) × ((k : ℕ) → k < i → get_or gone k 0 < id) × ((k : ℕ) → i ≤ k → k < length gone → id < get_or gone k 0))
    → is_err r ≡ not (list_any (nat_eq id) gone)
told_by_search gone id (Ok i) h =
    let same : nat_eq id (get_or gone i 0) ≡ true = grind (arith, h.1) in
    sym (ap not (list_any_at (nat_eq id) gone i 0 h.0 same))
told_by_search gone id (Err i) h =
    sym (ap not (list_any_none (nat_eq id) gone (λ k d low. grind (arith, low, h.1 k, h.2 k, get_or_default gone k d 0 low))))

-- the same of ones in order
pub told_in_order : (gone : List ℕ) (id : ℕ) (r : Result ℕ ℕ) → IsNonDecreasing gone → IsBinarySearchResult (λ y. nat_cmp y id) gone r → is_err r ≡ not (list_any (nat_eq id) gone)
told_in_order gone id r order found = told_by_search gone id r (searched gone id r found (λ i j le low. order i j 0 le low))
