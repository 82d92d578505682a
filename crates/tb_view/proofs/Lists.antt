-- Facts on lists.
use Rattle.std.proofs.Common.{arith, ◌≡◌, ℕ, ◌<◌, ◌≤◌, suc, zero, refl, List, [], ◌∷◌, length, get_or, take, drop}

-- one element from place n on, which is there, and none past the end
pub one_taken : {X : Type 0} (xs : List X) (n : ℕ) (d : X) → n < length xs → take 1 (drop n xs) ≡ get_or xs n d ∷ []
one_taken [] n d low = absurd (omega arith)
one_taken (x ∷ xs) zero d low = refl
one_taken (x ∷ xs) (suc n) d low = one_taken xs n d (omega arith)

pub none_taken : {X : Type 0} (xs : List X) (n : ℕ) → length xs ≤ n → take 1 (drop n xs) ≡ []
none_taken [] zero past = refl
none_taken [] (suc n) past = refl
none_taken (x ∷ xs) zero past = absurd (omega arith)
none_taken (x ∷ xs) (suc n) past = none_taken xs n (omega arith)
