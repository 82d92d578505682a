-- Row numbers and ids as numbers and back, and their tests.
use Rattle.std.specs.Prelude.{◌&&◌, nat_eq, ◌≡◌, ◌^◌, ◌/◌, ◌%◌, ℕ, Bool, true, false, Some, None, cond}
use Rattle.std.proofs.Common.{refl, sym, eqb}
use Rattle.std.proofs.lemmas.Bool.{eqb-true}
use Rattle.std.proofs.lemmas.Cmp.{nat_eq_equiv}
use Rattle.std.specs.Cmp.{IsEquivalence}
use Rattle.std.specs.Cmp.Lexicographic.{options_equiv}
use Rattle.std.specs.Option.{option_eq}
use Rattle.std.specs.Bool.{Decides}
use Rattle.std.proofs.lemmas.Bool.Decides.{Decides-eqb}
use Rattle.std.proofs.lemmas.Nat.{div-add-mod'}
use Rattle.tb_value.specs.ChunkRow.{of_swizzled, to_swizzled, same_row}
use Rattle.tb_value.specs.Index.{of_number, to_number}
use Rattle.tb_value.specs.Proved.ValueTests.{from_decides}

pub number_back : (n : ℕ) → to_number (of_number n) ≡ n
number_back n = cases (eqb n 4294967295) refl
  where
    cases : (b : Bool) → eqb n 4294967295 ≡ b → to_number (cond b None (Some n)) ≡ n
    cases true e = sym (eqb-true n 4294967295 e)
    cases false e = refl

pub numbers_equiv : IsEquivalence (option_eq nat_eq)
numbers_equiv = options_equiv nat_eq_equiv

pub swizzled_back : (bits n : ℕ) → to_swizzled bits (of_swizzled bits n) ≡ n
swizzled_back bits n = cases (eqb n 18446744073709551615) refl
  where
    cases : (b : Bool) → eqb n 18446744073709551615 ≡ b
        → to_swizzled bits (cond b None (Some (n % 2 ^ bits, n / 2 ^ bits))) ≡ n
    cases true e = sym (eqb-true n 18446744073709551615 e)
    cases false e = div-add-mod' n (2 ^ bits)

both_true : (a b : Bool) → (a && b) ≡ true → (a ≡ true) × (b ≡ true)
both_true true b h = (refl, h)
both_true false b h = absurd (cc)

same_row-Decides : (p q : ℕ × ℕ) → Decides (same_row p q) (p ≡ q)
same_row-Decides p q =
    let c = Decides-eqb p.0 q.0 in
    let r = Decides-eqb p.1 q.1 in (
      λ h.
          let b = both_true (nat_eq p.0 q.0) (nat_eq p.1 q.1) h in
          λ i. (c.0 b.0 i, r.0 b.1 i),
      λ e. rw (c.1 (λ i. (e i).0), r.1 (λ i. (e i).1)) refl,
    )

pub ids_equiv : IsEquivalence (option_eq same_row)
ids_equiv = options_equiv (from_decides same_row same_row-Decides)
