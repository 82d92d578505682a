-- Columns that are kept under the names at their places, place by place.
use Rattle.std.proofs.Common.{◌≡◌, ◌≤◌, ◌<◌, ◌+◌, ℕ, zero, suc, Bool, true, false, cond, not, List, [], ◌∷◌, length, get_or, take, refl, ap, sym, ◌∙◌, arith, Option, Some, None, unwrap_or}
use Rattle.std.specs.Prelude.{nat_lt, position, slice_get}
use Rattle.std.specs.List.{position_or_len}
use Rattle.std.specs.Option.{option_and_then, option_map, option_or}
use Rattle.std.proofs.lemmas.Bool.{le-ltb, lt-ltb, ltb-false, ltb-true}
use Rattle.std.proofs.lemmas.Cmp.{nat_list_eq_equiv}
use Rattle.std.proofs.lemmas.Slice.Eq.{bytes_eq-Decides}
use Rattle.tb_value.specs.Promise.Names.{Name, same_name}
use Rattle.tb_chunk.specs.Promise.Col.{Col}
use Rattle.tb_keys.specs.Coalescing.{key_beside}

below : (a b : ℕ) → nat_lt (suc a) (suc b) ≡ nat_lt a b
below a b = at (nat_lt a b) refl
  where
    at : (c : Bool) → nat_lt a b ≡ c → nat_lt (suc a) (suc b) ≡ nat_lt a b
    at true e = lt-ltb (suc a) (suc b) (let h = ltb-true a b e in omega (arith, h)) ∙ sym e
    at false e = le-ltb (suc a) (suc b) (let h = ltb-false a b e in omega (arith, h)) ∙ sym e

position-cons : {X : Type 0} (p : X → Bool) (x : X) (xs : List X) → position p (x ∷ xs) ≡ cond (p x) (Some 0) (option_map (λ (k : ℕ). suc k) (position p xs))
position-cons {X} p x xs = at (p x)
  where
    inner : (b : Bool) → cond b (Some (suc (position_or_len p xs))) None ≡ option_map (λ (k : ℕ). suc k) (cond b (Some (position_or_len p xs)) None)
    inner true = refl
    inner false = refl

    next : 1 + position_or_len p xs ≡ suc (position_or_len p xs)
    next = omega arith

    at : (b : Bool) → cond (nat_lt (cond (not b) (1 + position_or_len p xs) 0) (length (x ∷ xs))) (Some (cond (not b) (1 + position_or_len p xs) 0)) None
        ≡ cond b (Some 0) (option_map (λ (k : ℕ). suc k) (position p xs))
    at true = ap (λ (b : Bool). cond b (Some 0) None) (lt-ltb 0 (length (x ∷ xs)) (omega arith))
    at false = ap (λ (k : ℕ). cond (nat_lt k (length (x ∷ xs))) (Some k) None) next ∙ ap (λ (b : Bool). cond b (Some (suc (position_or_len p xs))) None) (below (position_or_len p xs) (length xs)) ∙ inner (nat_lt (position_or_len p xs) (length xs))

-- the column beside the first name of that kind, or beside a later one
beside-cons : (m : Name) (ms : List Name) (k : Col) (ks : List Col) (n : Name) → key_beside (m ∷ ms) (k ∷ ks) n ≡ cond (same_name n m) (Some k) (key_beside ms ks n)
beside-cons m ms k ks n = ap (λ (o : Option ℕ). option_and_then (λ p. slice_get (k ∷ ks) p) o) (position-cons (same_name n) m ms) ∙ at (same_name n m) (position (same_name n) ms)
  where
    at : (b : Bool) (o : Option ℕ) → option_and_then (λ p. slice_get (k ∷ ks) p) (cond b (Some 0) (option_map (λ (p : ℕ). suc p) o)) ≡ cond b (Some k) (option_and_then (λ p. slice_get ks p) o)
    at true o = refl
    at false None = refl
    at false (Some p) = refl

beside-more : (names : List Name) (cols : List Col) (n : Name) (i : ℕ) (m : Name) (c : Col) → i < length names → length names ≤ length cols → m ≡ get_or names i m → c ≡ get_or cols i c
    → key_beside (take (suc i) names) cols n ≡ option_or (key_beside (take i names) cols n) (cond (same_name n m) (Some c) None)
beside-more [] cols n i m c low many at_m at_c = absurd (omega (arith, low))
beside-more (x ∷ xs) [] n i m c low many at_m at_c = absurd (omega (arith, many))
beside-more (x ∷ xs) (k ∷ ks) n zero m c low many at_m at_c =
    beside-cons x [] k ks n ∙ (λ t. cond (same_name n (sym at_m t)) (Some (sym at_c t)) None)
beside-more (x ∷ xs) (k ∷ ks) n (suc i) m c low many at_m at_c =
    beside-cons x (take (suc i) xs) k ks n
    ∙ ap (λ (o : Option Col). cond (same_name n x) (Some k) o) (beside-more xs ks n i m c (omega (arith, low)) (omega (arith, many)) at_m at_c)
    ∙ at (same_name n x) (key_beside (take i xs) ks n)
    ∙ sym (ap (λ (o : Option Col). option_or o (cond (same_name n m) (Some c) None)) (beside-cons x (take i xs) k ks n))
  where
    at : (b : Bool) (o : Option Col) → cond b (Some k) (option_or o (cond (same_name n m) (Some c) None)) ≡ option_or (cond b (Some k) o) (cond (same_name n m) (Some c) None)
    at true o = refl
    at false o = refl

some_or : (o : Option Col) (c : Col) → Some (unwrap_or o c) ≡ option_or o (Some c)
some_or None c = refl
some_or (Some d) c = refl

or_none : (o : Option Col) → o ≡ option_or o None
or_none None = refl
or_none (Some d) = refl

-- what is kept after the column at one more place
pub kept_beside : (names : List Name) (cols : List Col) (i : ℕ) (m : Name) (c : Col) → i < length names → length names ≤ length cols → m ≡ get_or names i m → c ≡ get_or cols i c
    → (old new : Name → Option Col) → ((n : Name) → old n ≡ key_beside (take i names) cols n) → ((n : Name) → new n ≡ cond (same_name m n) (Some (unwrap_or (old m) c)) (old n)) → (n : Name) → new n ≡ key_beside (take (i + 1) names) cols n
kept_beside names cols i m c low many at_m at_c old new was grown n =
    let next : i + 1 ≡ suc i = omega arith in
    grown n ∙ at (same_name m n) refl ∙ ap (λ (b : Bool). option_or (key_beside (take i names) cols n) (cond b (Some c) None)) (nat_list_eq_equiv.symm m n) ∙ sym (ap (λ (k : ℕ). key_beside (take k names) cols n) next ∙ beside-more names cols n i m c low many at_m at_c)
  where
    at : (b : Bool) → same_name m n ≡ b → cond b (Some (unwrap_or (old m) c)) (old n) ≡ option_or (key_beside (take i names) cols n) (cond b (Some c) None)
    at true h = ap (λ (o : Option Col). Some (unwrap_or o c)) (ap old ((bytes_eq-Decides m n).0 h) ∙ was n) ∙ some_or (key_beside (take i names) cols n) c
    at false h = was n ∙ or_none (key_beside (take i names) cols n)
