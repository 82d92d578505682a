-- The first fault of a list of faults.
use Rattle.std.proofs.Common.{◌≡◌, ◌⊎◌, ◌∷◌, ◌++◌, ◌+◌, ◌<◌, ◌∙◌, [], ℕ, zero, suc, List, Option, Some, None, map, refl, inl, inr, subst, arith}
use Rattle.std.specs.List.{range_with_len}
use Rattle.std.proofs.lemmas.List.FromFn.{map-range_with_len_more}
use Rattle.tb_value.specs.Promise.Pairs.{row_numbers}
use Rattle.tb_value.specs.Promise.Refusals.{first_cause}
use Rattle.tb_csv.specs.declared.fault.CsvFault.{CsvFault}
use Rattle.tb_csv.specs.declared.fault.CsvFault.TheVariants.{OutOfMemory}

pub by_first : (a : Option CsvFault) (cs : List (Option CsvFault)) (e : CsvFault) → (e ≡ OutOfMemory) ⊎ (a ≡ Some e) → (e ≡ OutOfMemory) ⊎ (first_cause (a ∷ cs) ≡ Some e)
by_first a cs e (inl m) = inl m
by_first None cs e (inr h) = cc h
by_first (Some x) cs e (inr h) = inr h

pub by_later : (a : Option CsvFault) (cs : List (Option CsvFault)) (e : CsvFault) → a ≡ None → (e ≡ OutOfMemory) ⊎ (first_cause cs ≡ Some e) → (e ≡ OutOfMemory) ⊎ (first_cause (a ∷ cs) ≡ Some e)
by_later None cs e none h = h
by_later (Some x) cs e none h = cc none

pub none_later : (a : Option CsvFault) (cs : List (Option CsvFault)) → a ≡ None → first_cause cs ≡ None → first_cause (a ∷ cs) ≡ None
none_later None cs none h = h
none_later (Some x) cs none h = cc none

pub same_fault : (a b : Option CsvFault) (e : CsvFault) → a ≡ b → (e ≡ OutOfMemory) ⊎ (a ≡ Some e) → (e ≡ OutOfMemory) ⊎ (b ≡ Some e)
same_fault a b e is h = rw (← is) h

first_is : (a : Option CsvFault) (cs : List (Option CsvFault)) (e : CsvFault) → a ≡ Some e → first_cause (a ∷ cs) ≡ Some e
first_is None cs e h = cc h
first_is (Some x) cs e h = h

pub first_parts : (a : Option CsvFault) (cs : List (Option CsvFault)) → first_cause (a ∷ cs) ≡ None → (a ≡ None) × (first_cause cs ≡ None)
first_parts None cs h = (refl, h)
first_parts (Some x) cs h = cc h

pub skipped : (a : Option CsvFault) (cs : List (Option CsvFault)) → a ≡ None → first_cause (a ∷ cs) ≡ first_cause cs
skipped None cs h = refl
skipped (Some x) cs h = cc h

-- THE FAULTS OF PLACES IN THEIR ORDER

pub none_push : (cs : List (Option CsvFault)) (c : Option CsvFault) → first_cause cs ≡ None → c ≡ None → first_cause (cs ++ c ∷ []) ≡ None
none_push [] None none h = refl
none_push [] (Some e) none h = cc h
none_push (None ∷ cs) c none h = none_push cs c none h
none_push (Some e ∷ cs) c none h = cc none

fault_at_from : (f : ℕ → Option CsvFault) (a j n : ℕ) (e : CsvFault) → first_cause (map f (range_with_len a j)) ≡ None → j < n → f (a + j) ≡ Some e → first_cause (map f (range_with_len a n)) ≡ Some e
fault_at_from f a zero zero e none low h = absurd (omega (arith, low))
fault_at_from f a (suc j) zero e none low h = absurd (omega (arith, low))
fault_at_from f a zero (suc n) e none low h =
    let at : a + zero ≡ a = omega arith in
    first_is (f a) (map f (range_with_len (a + 1) n)) e (subst (λ (i : ℕ). f i ≡ Some e) at h)
fault_at_from f a (suc j) (suc n) e none low h =
    let both = first_parts (f a) (map f (range_with_len (a + 1) j)) none in
    let at : a + suc j ≡ (a + 1) + j = omega arith in
    skipped (f a) (map f (range_with_len (a + 1) n)) both.0 ∙ fault_at_from f (a + 1) j n e both.1 (omega (arith, low)) (subst (λ (i : ℕ). f i ≡ Some e) at h)

-- the first fault stands at a place
pub fault_at : (f : ℕ → Option CsvFault) (j n : ℕ) (e : CsvFault) → first_cause (map f (row_numbers j)) ≡ None → j < n → (e ≡ OutOfMemory) ⊎ (f j ≡ Some e) → (e ≡ OutOfMemory) ⊎ (first_cause (map f (row_numbers n)) ≡ Some e)
fault_at f j n e none low (inl m) = inl m
fault_at f j n e none low (inr h) = let at : j ≡ 0 + j = omega arith in inr (fault_at_from f 0 j n e none low (subst (λ (i : ℕ). f i ≡ Some e) at h))

pub none_more : (f : ℕ → Option CsvFault) (n : ℕ) → first_cause (map f (row_numbers n)) ≡ None → f n ≡ None → first_cause (map f (row_numbers (n + 1))) ≡ None
none_more f n none h = let at : 0 + n ≡ n = omega arith in rw (map-range_with_len_more f 0 n n at) (none_push (map f (row_numbers n)) (f n) none h)

pub then_fault : (a b : Option CsvFault) (e : CsvFault) → a ≡ None → b ≡ Some e → first_cause (a ∷ b ∷ []) ≡ Some e
then_fault a b e none h = skipped a (b ∷ []) none ∙ first_is b [] e h
