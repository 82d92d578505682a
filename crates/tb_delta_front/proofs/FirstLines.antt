-- The first line of a text.
use Rattle.std.proofs.Common.{◌≡◌, ◌∙◌, ◌<◌, ◌==◌, ℕ, zero, suc, Bool, true, false, List, [], ◌∷◌, length, take, drop, refl, ap, arith, if◌then◌else◌}
use Rattle.std.specs.Prelude.{slice_index}
use Rattle.tb_delta_front.specs.Promise.Steps.{lines_of, onto}

abbrev IsEnd : List ℕ → ℕ → Type 0
IsEnd s k = (slice_index s k == 10) ≡ true

abbrev first_of : ℕ → List ℕ → Bool → List (List ℕ)
first_of c cs b = (if b then [] ∷ lines_of cs else onto c (lines_of cs))

not_true : (b : Bool) → ¬ (b ≡ true) → b ≡ false
not_true true h = absurd (h refl)
not_true false h = refl

pub cut_at : (i : ℕ) (s : List ℕ) → i < length s → ((k : ℕ) → k < i → ¬ IsEnd s k) → IsEnd s i → lines_of s ≡ take i s ∷ lines_of (drop (suc i) s)
cut_at i [] low none is = absurd (omega (arith, low))
cut_at zero (c ∷ cs) low none is = ap (first_of c cs) is
cut_at (suc i) (c ∷ cs) low none is =
    ap (first_of c cs) (not_true (c == 10) (none zero (omega arith)))
    ∙ ap (onto c) (cut_at i cs (omega (arith, low)) (λ k h. none (suc k) (omega (arith, h))) is)

pub no_cut : (s : List ℕ) → 0 < length s → ((k : ℕ) → k < length s → ¬ IsEnd s k) → lines_of s ≡ s ∷ []
no_cut [] some none = absurd (omega (arith, some))
no_cut (c ∷ []) some none = ap (first_of c []) (not_true (c == 10) (none zero (omega arith)))
no_cut (c ∷ d ∷ cs) some none =
    ap (first_of c (d ∷ cs)) (not_true (c == 10) (none zero (omega arith)))
    ∙ ap (onto c) (no_cut (d ∷ cs) (omega arith) (λ k h. none (suc k) (omega (arith, h))))
