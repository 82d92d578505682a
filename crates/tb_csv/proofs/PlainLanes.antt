-- The bytes of a vector that stand before one that passes a test.
use Rattle.std.proofs.Common.{◌≡◌, ◌==◌, ◌<◌, ◌≤◌, ◌+◌, ◌%◌, ◌^◌, ◌∷◌, ◌∙◌, [], ℕ, List, Bool, true, false, cond, not, drop, take, length, map, bit_or, refl, sym, ap, arith}
use Rattle.std.specs.Prelude.{◌||◌}
use Rattle.std.specs.List.{position_or_len}
use Rattle.std.proofs.lemmas.Bool.Decides.{nat_tests}
use Rattle.std.proofs.lemmas.List.{length-map}
use Rattle.std.proofs.lemmas.List.Folds.{prefix_len-append}
use Rattle.std.proofs.lemmas.Simd.{chunk-drop, leading_from_mask_l, length-chunk, map-map, mask_l-mod, run_in_chunk_le, trailing_mask_l}
use lib.Count.{count_trailing_zeros}
use lib.Lanes.{mask_l, top}

-- a lane of a comparison has all bits or none, so one of three is set where one of them is
pub one_of_three : (a b c : Bool) → top 7 (bit_or (cond a 255 0) (bit_or (cond b 255 0) (cond c 255 0))) ≡ (a || (b || c))
one_of_three true true true = refl
one_of_three true true false = refl
one_of_three true false true = refl
one_of_three true false false = refl
one_of_three false true true = refl
one_of_three false true false = refl
one_of_three false false true = refl
one_of_three false false false = refl

same_tests : (p q : ℕ → Bool) → ((x : ℕ) → q x ≡ p x) → (v : List ℕ) → map q v ≡ map p v
same_tests p q same [] = refl
same_tests p q same (x ∷ v) = rw (same x, same_tests p q same v) refl

module _ (p : ℕ → Bool) (v z : List ℕ) (f : ℕ → ℕ) (long : length v ≡ 16) (lanes : z ≡ map f v) (stops : (x : ℕ) → top 7 (f x) ≡ p x) where
  mask_is : mask_l (map (top 7) z) % 2 ^ 64 ≡ mask_l (map p v)
  mask_is =
      ap (λ (bs : List Bool). mask_l bs % 2 ^ 64) (ap (map (top 7)) lanes ∙ map-map (top 7) f v ∙ same_tests p (λ x. top 7 (f x)) stops v)
      ∙ mask_l-mod (map p v) 64 (omega (arith, length-map v p, long))

  pub none_passes : mask_l (map (top 7) z) % 2 ^ 64 ≡ 0 → 16 ≡ position_or_len p v
  none_passes none = sym (leading_from_mask_l p v (sym mask_is ∙ none) ∙ long)

  pub one_passes : (mask_l (map (top 7) z) % 2 ^ 64 ≡ 0 → ⊥) → count_trailing_zeros 64 (mask_l (map (top 7) z) % 2 ^ 64) ≡ position_or_len p v
  one_passes some = ap (count_trailing_zeros 64) mask_is ∙ trailing_mask_l p 64 v (omega (arith, long)) (omega (arith, mask_is, some))

module _ (p : ℕ → Bool) (text : List ℕ) (place before : ℕ) (room : place + 16 ≤ length text) (is : before ≡ position_or_len p (take 16 (drop place text))) where
  pub before_low : before ≤ 16
  before_low = run_in_chunk_le p text place 16 before 0 room is

  split : position_or_len p (drop place text)
      ≡ cond (position_or_len p (take 16 (drop place text)) == length (take 16 (drop place text))) (length (take 16 (drop place text)) + position_or_len p (drop (place + 16) text)) (position_or_len p (take 16 (drop place text)))
  split = ap (position_or_len p) (chunk-drop place 16 text) ∙ prefix_len-append (λ x. not (p x)) (take 16 (drop place text)) (drop (place + 16) text)

  -- one of the bytes passes
  pub passes_here : before < 16 → position_or_len p (drop place text) ≡ before
  passes_here low = let size = length-chunk place 16 text room in grind (arith, nat_tests, split, size)

  -- none does
  pub passes_later : 16 ≤ before → position_or_len p (drop place text) ≡ before + position_or_len p (drop (place + before) text)
  passes_later high =
      let size = length-chunk place 16 text room in
      let all : before ≡ 16 = omega (arith, before_low) in
      let whole : position_or_len p (drop place text) ≡ 16 + position_or_len p (drop (place + 16) text) = grind (arith, nat_tests, split, size) in
      rw all whole
