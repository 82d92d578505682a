-- The first number that passes a test.
use Rattle.std.proofs.Common.{◌≡◌, ℕ, zero, suc, ◌<◌, ◌≤◌, ◌+◌, Bool, true, false, refl, sym, subst, arith, ◌∙◌, inl, inr, ap}
use Rattle.std.proofs.lemmas.Bool.{cases_eq}
use Rattle.tb_date.specs.Promise.Dates.{first_that}

-- the number is the first from here that passes
pub record IsFirst (p : ℕ → Bool) (from last k : ℕ) : Type 0 where
  pub low : from ≤ k
  pub high : k ≤ last
  pub passes : p k ≡ true
  pub fails : (j : ℕ) → from ≤ j → j < k → p j ≡ false

here : (p : ℕ → Bool) (more from last : ℕ) → p from ≡ true → from + more ≡ last → IsFirst p from last from
here p more from last passed e = record {
  low = omega arith;
  high = omega (arith, e);
  passes = passed;
  fails = λ j low less. absurd (omega (arith, low, less));
}

later : (p : ℕ → Bool) (from last k : ℕ) → p from ≡ false → IsFirst p (from + 1) last k → IsFirst p from last k
later p from last k failed more = record {
  low = omega (arith, more.low);
  high = more.high;
  passes = more.passes;
  fails = λ j low less. elim (cases_eq from j) [
    | inl same ↦ subst (λ i. p i ≡ false) same failed
    | inr other ↦ more.fails j (omega (arith, low, other)) less
  ];
}

by_test : (p : ℕ → Bool) (more from last : ℕ) (b : Bool) → p from ≡ b → from + suc more ≡ last
    → IsFirst p (from + 1) last (first_that p (from + 1) more) → IsFirst p from last (first_that p from (suc more))
unfolding first_that
by_test p more from last true passed e next = rw passed (here p (suc more) from last passed e)
by_test p more from last false failed e next = rw failed (later p from last _ failed next)

-- it is there where the last passes
pub first_is : (p : ℕ → Bool) (more from last : ℕ) → from + more ≡ last → p last ≡ true → IsFirst p from last (first_that p from more)
unfolding first_that
first_is p zero from last e h =
    let same : last ≡ from = omega (arith, e) in here p zero from last (sym (ap p same) ∙ h) e
first_is p (suc more) from last e h = by_test p more from last (p from) refl e (first_is p more (from + 1) last (omega (arith, e)) h)
