-- Causes that are looked at one after another.
use Rattle.std.proofs.Common.{◌≡◌, ◌∙◌, ◌+◌, ◌<◌, ◌⊎◌, inl, inr, ℕ, zero, suc, List, [], ◌∷◌, Option, Some, None, Result, map, refl, ap, subst, arith}
use Rattle.std.specs.List.{range_with_len}
use Rattle.std.proofs.lemmas.List.FromFn.{map-range_with_len_more}
use Rattle.tb_value.specs.Promise.Pairs.{row_numbers}
use Rattle.tb_value.specs.Promise.Refusals.{first_cause}
use Rattle.tb_value.specs.Refusals.{Settles}
use Rattle.tb_value.specs.declared.error.PolarsError.{PolarsError}
use Rattle.tb_value.specs.declared.error.PolarsError.TheVariants.{OutOfMemory}
use Rattle.tb_frame.proofs.Causes.{first_cause-append}

pub settled : {T : Type 0} (r : Result T PolarsError) (c d : Option PolarsError) → c ≡ d → Settles r c → Settles r d
settled r c d e h = subst (λ (x : Option PolarsError). Settles r x) e h

-- a cause that holds is the first
pub stops : (e : PolarsError) (a : Option PolarsError) (rest : List (Option PolarsError)) → (e ≡ OutOfMemory) ⊎ (a ≡ Some e) → (e ≡ OutOfMemory) ⊎ (first_cause (a ∷ rest) ≡ Some e)
stops e a rest (inl h) = inl h
stops e a rest (inr h) = inr (λ t. first_cause (h t ∷ rest))

-- and one that doesn't is passed by
pub goes_on : (a : Option PolarsError) (rest : List (Option PolarsError)) → a ≡ None → first_cause (a ∷ rest) ≡ first_cause rest
goes_on a rest none = λ t. first_cause (none t ∷ rest)

pub onward : (e : PolarsError) (a b : Option PolarsError) → b ≡ a → (e ≡ OutOfMemory) ⊎ (a ≡ Some e) → (e ≡ OutOfMemory) ⊎ (b ≡ Some e)
onward e a b same (inl h) = inl h
onward e a b same (inr h) = inr (same ∙ h)

-- CAUSES BY THEIR PLACES

stops_from : (f : ℕ → Option PolarsError) (a j n : ℕ) (e : PolarsError) → first_cause (map f (range_with_len a j)) ≡ None → j < n → f (a + j) ≡ Some e → first_cause (map f (range_with_len a n)) ≡ Some e
stops_from f a j zero e none low h = absurd (omega (arith, low))
stops_from f a zero (suc n) e none low h =
    let at : a + zero ≡ a = omega arith in
    let here : f a ≡ Some e = subst (λ (i : ℕ). f i ≡ Some e) at h in
    λ t. first_cause (here t ∷ map f (range_with_len (a + 1) n))
stops_from f a (suc j) (suc n) e none low h =
    let at : a + suc j ≡ (a + 1) + j = omega arith in
    by (f a) refl none (λ k. stops_from f (a + 1) j n e k (omega (arith, low)) (subst (λ (i : ℕ). f i ≡ Some e) at h))
  where
    by : (o : Option PolarsError) → f a ≡ o → first_cause (o ∷ map f (range_with_len (a + 1) j)) ≡ None
        → (first_cause (map f (range_with_len (a + 1) j)) ≡ None → first_cause (map f (range_with_len (a + 1) n)) ≡ Some e) → first_cause (f a ∷ map f (range_with_len (a + 1) n)) ≡ Some e
    by None is k later = goes_on (f a) (map f (range_with_len (a + 1) n)) is ∙ later k
    by (Some d) is k later = absurd (cc)

-- the first cause is that of the first place that has one
pub stops_at : (f : ℕ → Option PolarsError) (j n : ℕ) (e : PolarsError) → first_cause (map f (row_numbers j)) ≡ None → j < n
    → (e ≡ OutOfMemory) ⊎ (f j ≡ Some e) → (e ≡ OutOfMemory) ⊎ (first_cause (map f (row_numbers n)) ≡ Some e)
stops_at f j n e none low (inl m) = inl m
stops_at f j n e none low (inr h) =
    let at : j ≡ 0 + j = omega arith in
    inr (stops_from f 0 j n e none low (subst (λ (i : ℕ). f i ≡ Some e) at h))

-- where one place more has none there is none so far
pub none_more : (f : ℕ → Option PolarsError) (n : ℕ) → first_cause (map f (row_numbers n)) ≡ None → f n ≡ None → first_cause (map f (row_numbers (n + 1))) ≡ None
none_more f n none h =
    let at : 0 + n ≡ n = omega arith in
    ap first_cause (map-range_with_len_more f 0 n n at)
    ∙ first_cause-append (map f (row_numbers n)) (f n ∷ [])
    ∙ (λ t. first_cause (none t ∷ h t ∷ []))
