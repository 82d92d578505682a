-- Facts on buffers that stand among others.
use Rattle.std.proofs.Common.{arith, ◌≡◌, ◌<◌, ◌+◌, ◌++◌, ◌∷◌, [], ℕ, Bool, true, false, List, Option, Some, None, inl, inr, length, get_or, map, refl, ap, sym, ◌∙◌, length-append, eqb-true}
use Rattle.std.specs.Prelude.{if◌then◌else◌, nat_eq}
use Rattle.std.specs.Option.{unwrap_or}
use Rattle.std.proofs.lemmas.Bool.{cases_lt}
use Rattle.std.proofs.lemmas.List.{get_or_append_left, get_or-append-add, get_or-map, get_or_at, get_or_read_under, length-map}
use Rattle.tb_view.specs.Held.{Holds, AreHeld, StandsAt}
use Rattle.tb_view.specs.Moved.{number_from, used_buffer}
use Rattle.tb_view.specs.declared.view.View.{View}

-- further buffers change nothing of those that stand there
Holds-more : (all more : List (List ℕ)) (b : ℕ) (bs : List (List ℕ)) → Holds all b bs → Holds (all ++ more) b bs
Holds-more all more b bs h = record {
  within = omega (arith, h.within, length-append all more);
  same = λ k low. get_or_append_left all more [] (b + k) (omega (arith, low, h.within)) ∙ h.same k low;
}

Holds-last : (all bs : List (List ℕ)) → Holds (all ++ bs) (length all) bs
Holds-last all bs = record {
  within = omega (arith, length-append all bs);
  same = λ k low. get_or-append-add all bs k [];
}

pub AreHeld-nil : (all : List (List ℕ)) → AreHeld all [] []
AreHeld-nil all = record { whole = refl; each = λ k low. absurd (omega arith) }

pub AreHeld-push : (all : List (List ℕ)) (bases : List ℕ) (lists : List (List (List ℕ))) (bs : List (List ℕ)) → AreHeld all bases lists → AreHeld (all ++ bs) (bases ++ length all ∷ []) (lists ++ bs ∷ [])
AreHeld-push all bases lists bs h = record {
  whole = omega (arith, h.whole, length-append bases (length all ∷ []), length-append lists (bs ∷ []));
  each = λ k low. elim (cases_lt k (length lists)) [
    | inl i ↦
        let a : get_or (bases ++ length all ∷ []) k 0 ≡ get_or bases k 0 = get_or_append_left bases (length all ∷ []) 0 k (omega (arith, i, h.whole)) in
        let b : get_or (lists ++ bs ∷ []) k [] ≡ get_or lists k [] = get_or_append_left lists (bs ∷ []) [] k i in
        rw (a, b) (Holds-more all bs (get_or bases k 0) (get_or lists k []) (h.each k i))
    | inr i ↦
        let here : length lists ≡ k = omega (arith, i, low, length-append lists (bs ∷ [])) in
        let a : get_or (bases ++ length all ∷ []) k 0 ≡ length all = get_or_at bases (length all) [] 0 k (h.whole ∙ here) in
        let b : get_or (lists ++ bs ∷ []) k [] ≡ bs = get_or_at lists bs [] [] k here in
        rw (a, b) (Holds-last all bs)
  ];
}

-- the buffers of one of the chunks
pub Holds-at : {C : Type 0} (buffers : C → List (List ℕ)) (all : List (List ℕ)) (bases : List ℕ) (cs : List C) (k base : ℕ) (c : C) → k < length cs → base ≡ get_or bases k base → c ≡ get_or cs k c → AreHeld all bases (map buffers cs) → Holds all base (buffers c)
Holds-at buffers all bases cs k base c low at is h =
    let low_base : k < length bases = omega (arith, low, h.whole, length-map cs buffers) in
    let first : get_or bases k 0 ≡ base = sym (get_or_read_under bases k (length bases) base 0 at low_base refl) in
    let its : get_or (map buffers cs) k [] ≡ buffers c = get_or-map buffers cs k c [] low ∙ ap buffers (sym is) in
    rw (first, its) at (h.each k (omega (arith, low, length-map cs buffers)))

number-base : (base b : ℕ) → unwrap_or (if nat_eq base 0 then None else Some (base + b)) b ≡ base + b
number-base base b = by (nat_eq base 0) refl
  where
    by : (t : Bool) → nat_eq base 0 ≡ t → unwrap_or (if nat_eq base 0 then None else Some (base + b)) b ≡ base + b
    by true e = rw e (omega (arith, eqb-true base 0 e))
    by false e = rw e refl

-- the buffer of a row of a chunk whose buffers stand from number base on
pub StandsAt-from : (all : List (List ℕ)) (base : ℕ) (bs : List (List ℕ)) (o : Option View) → Holds all base bs → StandsAt all (number_from base o) bs o
StandsAt-from all base bs o h = by (used_buffer o) refl
  where
    by : (u : Option ℕ) → used_buffer o ≡ u → StandsAt all (number_from base o) bs o
    by None e = rw e tt
    by (Some b) e = rw (e, number-base base b) (λ low. (omega (arith, low, h.within), h.same b low))
