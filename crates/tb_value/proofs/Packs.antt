-- A row above the bits of a chunk.
use Rattle.std.proofs.Common.{◌≡◌, ◌≢◌, ℕ, Bool, true, false, eqb, cond, refl, Option, Some, None, ◌<◌, ◌≤◌, ◌+◌, ◌-◌, ◌*◌, ◌^◌, ◌%◌, ◌/◌, bit_or, ap, sym, ◌∙◌, arith}
use Rattle.std.specs.Prelude.{IsSome}
use Rattle.std.proofs.lemmas.Bool.{eqb-false, eqb-true}
use Rattle.tb_value.specs.ChunkRow.{of_swizzled}
use Rattle.std.proofs.lemmas.Nat.{shl_whole, or_shifted, mod_low, shr_high, mul-add-lt}
use Rattle.std.proofs.Math.Pow.{pow_mono}

pub packed : (B chunk row : ℕ) → B ≤ 32 → chunk < 2 ^ B - 1 → row < 4294967295 → bit_or (row * 2 ^ B % 18446744073709551616) chunk ≡ row * 2 ^ B + chunk
packed B chunk row b c r =
    let e : row * 2 ^ B % 2 ^ 64 ≡ row * 2 ^ B = shl_whole row 32 B 64 (omega arith) (omega arith) in
    ap (λ n. bit_or n chunk) e ∙ or_shifted row B chunk (omega arith)

pub packed-chunk : (B chunk row : ℕ) → B ≤ 32 → chunk < 2 ^ B - 1 → row < 4294967295 → bit_or (row * 2 ^ B % 18446744073709551616) chunk % 2 ^ B ≡ chunk
packed-chunk B chunk row b c r = ap (λ n. n % 2 ^ B) (packed B chunk row b c r) ∙ mod_low row B chunk (omega arith)

pub packed-row : (B chunk row : ℕ) → B ≤ 32 → chunk < 2 ^ B - 1 → row < 4294967295 → bit_or (row * 2 ^ B % 18446744073709551616) chunk / 2 ^ B ≡ row
packed-row B chunk row b c r = ap (λ n. n / 2 ^ B) (packed B chunk row b c r) ∙ shr_high row B chunk (omega arith)

pub packed-some : (B chunk row : ℕ) → B ≤ 32 → chunk < 2 ^ B - 1 → row < 4294967295 → bit_or (row * 2 ^ B % 18446744073709551616) chunk ≢ 18446744073709551615
packed-some B chunk row b c r e =
    let p : 2 ^ B ≤ 2 ^ 32 = pow_mono b in
    let q : row * 2 ^ B + chunk < 2 ^ B * 4294967295 = mul-add-lt row (2 ^ B) chunk 4294967295 r (omega arith) in
    omega (arith, packed B chunk row b c r, e, p, q)

-- an id that holds a row is not all ones
pub some_swizzled : (bits n : ℕ) (o : Option (ℕ × ℕ)) → of_swizzled bits n ≡ o → IsSome o → (n ≢ 18446744073709551615) × (o ≡ Some (n % 2 ^ bits, n / 2 ^ bits))
some_swizzled bits n o seen some = split (eqb n 18446744073709551615) refl o seen some
  where
    split : (b : Bool) → eqb n 18446744073709551615 ≡ b → (o : Option (ℕ × ℕ)) → cond {A = Option (ℕ × ℕ)} b None (Some (n % 2 ^ bits, n / 2 ^ bits)) ≡ o → IsSome o → (n ≢ 18446744073709551615) × (o ≡ Some (n % 2 ^ bits, n / 2 ^ bits))
    split true e None h some = absurd (cc)
    split true e (Some p) h some = absurd (cc)
    split false e o h some = (eqb-false n 18446744073709551615 e, sym h)

pub not_ones : (bits n : ℕ) → n ≢ 18446744073709551615 → of_swizzled bits n ≡ Some (n % 2 ^ bits, n / 2 ^ bits)
not_ones bits n some = split (eqb n 18446744073709551615) refl
  where
    split : (b : Bool) → eqb n 18446744073709551615 ≡ b → cond {A = Option (ℕ × ℕ)} b None (Some (n % 2 ^ bits, n / 2 ^ bits)) ≡ Some (n % 2 ^ bits, n / 2 ^ bits)
    split true e = absurd (some (eqb-true n 18446744073709551615 e))
    split false e = refl
