-- Columns that were read, looked at one after another.
use Rattle.std.proofs.Common.{◌≡◌, ◌<◌, ◌+◌, ◌-◌, ◌∷◌, [], ℕ, zero, suc, List, length, arith, refl, subst}
use Rattle.std.specs.List.{AllZip, range_with_len}

module _ {Y : Type 0} (P : ℕ → Y → Type 0) where
  -- what is left once the first is taken
  pub next_of : (j n : ℕ) (y : Y) (ys : List Y) → AllZip P (range_with_len j n) (y ∷ ys) → (0 < n) × P j y × AllZip P (range_with_len (j + 1) (n - 1)) ys
  next_of j zero y ys h = absurd h
  next_of j (suc n) y ys h =
      let less : n ≡ suc n - 1 = omega arith in
      (omega arith, h.0, subst (λ m. AllZip P (range_with_len (j + 1) m) ys) less h.1)

  -- none is left
  pub none_of : (j n : ℕ) (ys : List Y) → length ys ≡ 0 → AllZip P (range_with_len j n) ys → n ≡ 0
  none_of j zero ys none h = refl
  none_of j (suc n) [] none h = absurd h
  none_of j (suc n) (y ∷ ys) none h = absurd (omega (arith, none))
