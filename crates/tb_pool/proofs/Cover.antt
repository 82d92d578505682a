-- Portions of all rows lie within them, and cover them once, in order.
use Rattle.std.proofs.Common.{◌≡◌, ℕ, zero, suc, ◌+◌, ◌-◌, ◌*◌, ◌/◌, ◌<◌, ◌≤◌, ◌==◌, Bool, true, false, cond, List, [], ◌∷◌, ◌++◌, length, get_or, map, sym, subst, ap, ◌∙◌, arith}
use Rattle.std.specs.Prelude.{All}
use Rattle.std.specs.List.{range_with_len, flat_map}
use Rattle.std.proofs.lemmas.Bool.Decides.{nat_tests}
use Rattle.std.proofs.lemmas.List.{append-nil}
use Rattle.std.proofs.lemmas.List.FromFn.{map-range_with_len_more, length-map-range_with_len, get_or-map-range_with_len}
use Rattle.std.proofs.lemmas.Grind.{flat_map-append}
use Rattle.std.proofs.Math.Nat.{suc-mul, mul-le-mul_right, mul-div-le, zero-mul}
use Rattle.tb_value.specs.Promise.Pairs.{row_numbers}
use Rattle.tb_value.proofs.RowNumbers.{range_cut}
use Rattle.tb_pool.specs.Portions.{portion_of, places_of}

not_last : (k n x y : ℕ) → k + 1 < n → cond {A = ℕ} (k + 1 == n) x y ≡ y
not_last k n x y h = grind (arith, nat_tests)

is_last : (k n x y : ℕ) → k + 1 ≡ n → cond {A = ℕ} (k + 1 == n) x y ≡ x
is_last k n x y h = grind (arith, nat_tests)

-- the places of the first k portions
abbrev places : (len n k : ℕ) → List ℕ
places len n k = flat_map places_of (map (portion_of len n) (range_with_len 0 k))

-- one portion more
one_more : (len n k : ℕ) → places len n (suc k) ≡ places len n k ++ places_of (portion_of len n k)
one_more len n k =
    let more : suc k ≡ k + 1 = omega arith in
    ap (places len n) more
    ∙ ap (flat_map places_of) (map-range_with_len_more (portion_of len n) 0 k k (omega arith))
    ∙ flat_map-append places_of (map (portion_of len n) (range_with_len 0 k)) (portion_of len n k ∷ [])
    ∙ ap (λ (l : List ℕ). places len n k ++ l) (append-nil (places_of (portion_of len n k)))

-- portions before the last have len / n places each
front : (len n k : ℕ) → k < n → places len n k ≡ range_with_len 0 (k * (len / n))
front len n zero h = sym (ap (range_with_len 0) (zero-mul (len / n)))
front len n (suc k) h =
    let each = len / n in
    let size : (portion_of len n k).1 ≡ each = not_last k n (len - k * each) each (omega arith) in
    let sum : suc k * each ≡ k * each + each = suc-mul k each in
    let offset : 0 + k * each ≡ k * each = omega arith in
    one_more len n k
    ∙ (λ i. front len n k (omega arith) i ++ range_with_len (sym offset i) (size i))
    ∙ sym (range_cut 0 (k * each) each)
    ∙ sym (ap (range_with_len 0) sum)

pub cover : (len n : ℕ) → 1 ≤ n → flat_map places_of (map (portion_of len n) (range_with_len 0 n)) ≡ range_with_len 0 len
cover len zero h = absurd (omega arith)
cover len (suc k) h =
    let each = len / suc k in
    let size : (portion_of len (suc k) k).1 ≡ len - k * each = is_last k (suc k) (len - k * each) each (omega arith) in
    let sum : suc k * each ≡ k * each + each = suc-mul k each in
    let fits : suc k * each ≤ len = mul-div-le len (suc k) in
    let offset : 0 + k * each ≡ k * each = omega arith in
    let all : k * each + (len - k * each) ≡ len = omega arith in
    one_more len (suc k) k
    ∙ (λ i. front len (suc k) k (omega arith) i ++ range_with_len (sym offset i) (size i))
    ∙ sym (range_cut 0 (k * each) (len - k * each))
    ∙ ap (range_with_len 0) all

-- PORTIONS OF A LIST, as a loop makes them

portion_fits : (len n i : ℕ) → i < n → (portion_of len n i).0 + (portion_of len n i).1 ≤ len
portion_fits len n i low = at (i + 1 == n)
  where
    whole : n * (len / n) ≤ len
    whole = mul-div-le len n

    upto : (i + 1) * (len / n) ≤ n * (len / n)
    upto = mul-le-mul_right (len / n) (omega arith)

    at : (b : Bool) → i * (len / n) + cond b (len - i * (len / n)) (len / n) ≤ len
    at true = let u = upto in let w = whole in omega (arith, u, w)
    at false = let u = upto in let w = whole in omega (arith, u, w)

pub portions_within : (len n : ℕ) (v : List (ℕ × ℕ)) → v ≡ map (portion_of len n) (range_with_len 0 n) → All (λ p. p.0 + p.1 ≤ len) v
portions_within len n v e =
    subst (λ (l : List (ℕ × ℕ)). All (λ p. p.0 + p.1 ≤ len) l) (sym e)
    (λ i d low.
    let low' : i < n = omega (arith, length-map-range_with_len (portion_of len n) 0 n) in
    let is : get_or (map (portion_of len n) (range_with_len 0 n)) i d ≡ portion_of len n i = get_or-map-range_with_len (portion_of len n) 0 n i i d low' (omega arith) in
    subst (λ (p : ℕ × ℕ). p.0 + p.1 ≤ len) (sym is) (portion_fits len n i low'))

pub portions_count : (len n : ℕ) (v : List (ℕ × ℕ)) → v ≡ map (portion_of len n) (range_with_len 0 n) → length v ≡ n
portions_count len n v e = ap (λ (l : List (ℕ × ℕ)). length l) e ∙ length-map-range_with_len (portion_of len n) 0 n

pub portions_rows : (len n : ℕ) (v : List (ℕ × ℕ)) → 1 ≤ n → v ≡ map (portion_of len n) (range_with_len 0 n) → flat_map places_of v ≡ row_numbers len
portions_rows len n v some e = ap (flat_map places_of) e ∙ cover len n some
