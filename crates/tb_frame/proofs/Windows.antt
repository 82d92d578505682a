-- A slice is a window of a list.
use Rattle.std.proofs.Common.{◌≡◌, ℕ, zero, suc, ◌+◌, ◌<◌, Bool, true, false, cond, List, [], ◌∷◌, length, map, take, drop, refl, ap, sym, arith, ◌∙◌, leb, ltb}
use Rattle.std.specs.Prelude.{filter, ◌&&◌, ◌-◌, ℤ}
use Rattle.std.specs.List.{enumerate_from}
use Rattle.std.proofs.lemmas.Bool.Decides.{nat_tests}
use Rattle.tb_chunk.specs.Window.{part_from, part_to, place_of, window}
use Rattle.tb_chunk.proofs.Windows.{in_part}
use Rattle.tb_frame.specs.Promise.Join.{in_slice, slice}

-- the test of a window, one place on
past : (l c k : ℕ) → (leb (suc l) (suc k) && ltb (suc k) (suc l + c)) ≡ (leb l k && ltb k (l + c))
past l c k = grind (arith, nat_tests)

-- where the test holds of c places from lo on, those are what is kept
kept_places : {X : Type 0} (b lo c : ℕ) (xs : List X) (f : ℕ → Bool) → ((k : ℕ) → k < length xs → f (b + k) ≡ (leb lo k && ltb k (lo + c))) → map (λ (x : ℕ × X). x.1) (filter (λ (x : ℕ × X). f x.0) (enumerate_from b xs)) ≡ take c (drop lo xs)
kept_places b zero zero [] f h = refl
kept_places b zero (suc c) [] f h = refl
kept_places b (suc lo) zero [] f h = refl
kept_places b (suc lo) (suc c) [] f h = refl
kept_places {X} b zero zero (x ∷ xs) f h =
    let no : f b ≡ false = ap f (omega arith) ∙ h 0 (omega arith) in
    ap (λ (t : Bool). map (λ (y : ℕ × X). y.1) (cond t ((b, x) ∷ filter (λ (y : ℕ × X). f y.0) (enumerate_from (b + 1) xs)) (filter (λ (y : ℕ × X). f y.0) (enumerate_from (b + 1) xs)))) no
    ∙ kept_places (b + 1) zero zero xs f (λ k low. ap f (omega arith) ∙ h (suc k) (omega arith) ∙ grind (arith, nat_tests))
kept_places {X} b zero (suc c) (x ∷ xs) f h =
    let yes : f b ≡ true = ap f (omega arith) ∙ h 0 (omega arith) ∙ grind (arith, nat_tests) in
    ap (λ (t : Bool). map (λ (y : ℕ × X). y.1) (cond t ((b, x) ∷ filter (λ (y : ℕ × X). f y.0) (enumerate_from (b + 1) xs)) (filter (λ (y : ℕ × X). f y.0) (enumerate_from (b + 1) xs)))) yes
    ∙ ap (λ (l : List X). x ∷ l) (kept_places (b + 1) zero c xs f (λ k low. ap f (omega arith) ∙ h (suc k) (omega arith) ∙ grind (arith, nat_tests)))
kept_places {X} b (suc lo) c (x ∷ xs) f h =
    let no : f b ≡ false = ap f (omega arith) ∙ h 0 (omega arith) ∙ grind (arith, nat_tests) in
    ap (λ (t : Bool). map (λ (y : ℕ × X). y.1) (cond t ((b, x) ∷ filter (λ (y : ℕ × X). f y.0) (enumerate_from (b + 1) xs)) (filter (λ (y : ℕ × X). f y.0) (enumerate_from (b + 1) xs)))) no
    ∙ kept_places (b + 1) lo c xs f (λ k low. ap f (omega arith) ∙ h (suc k) (omega arith) ∙ past lo c k)

pub slice_is : {X : Type 0} (xs : List X) (offset : ℤ) (len a c : ℕ) → ((p : ℕ) → p < length xs → in_slice (length xs) offset len p ≡ (leb a p && ltb p (a + c))) → slice xs offset len ≡ take c (drop a xs)
slice_is xs offset len a c h = kept_places 0 a c xs (in_slice (length xs) offset len) (λ k low. ap (in_slice (length xs) offset len) (omega arith) ∙ h k low)

-- by the places that the offset and the length name
pub slice_window : {X : Type 0} (xs : List X) (offset : ℤ) (len : ℕ) → slice xs offset len ≡ window (length xs) offset len xs
slice_window xs offset len = let n = length xs in slice_is xs offset len (part_from n offset) (part_to n offset len - part_from n offset) (λ p low. in_part n len p (place_of n offset) low)

-- the part that begins so far on and has so many items
pub slice_part : {X : Type 0} (xs : List X) (offset : ℤ) (len : ℕ) (part : ℕ × ℕ) → part ≡ (part_from (length xs) offset, part_to (length xs) offset len - part_from (length xs) offset) → take part.1 (drop part.0 xs) ≡ slice xs offset len
slice_part xs offset len part is = ap (λ (p : ℕ × ℕ). take p.1 (drop p.0 xs)) is ∙ sym (slice_window xs offset len)
