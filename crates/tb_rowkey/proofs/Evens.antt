-- Places of one width.
use Rattle.std.proofs.Common.{◌≡◌, ◌+◌, ◌-◌, ◌*◌, ◌<◌, ◌≤◌, ℕ, List, [], ◌∷◌, ◌++◌, length, get_or, zero-add, ap, sym, ◌∙◌, arith}
use Rattle.std.proofs.lemmas.List.FromFn.{length-map-range_with_len, get_or-map-range_with_len, map-range_with_len_more}
use Rattle.std.proofs.lemmas.List.{length-append, get_or_append_left, get_or-append_right}
use Rattle.std.proofs.lemmas.Nat.{mul-le}
use Rattle.tb_rowkey.specs.EvenPlaces.{even_places, AreEven}

pub even_count : (width n : ℕ) → length (even_places width n) ≡ n
even_count width n = length-map-range_with_len (λ i. i * width) 0 n

pub even_at : (width n i : ℕ) → i < n → get_or (even_places width n) i 0 ≡ i * width
even_at width n i low = get_or-map-range_with_len (λ k. k * width) 0 n i i 0 low (zero-add i)

pub even_more : (width n : ℕ) → even_places width (n + 1) ≡ even_places width n ++ n * width ∷ []
even_more width n = map-range_with_len_more (λ i. i * width) 0 n n (zero-add n)

pub place_low : (width gaps i : ℕ) → i < gaps + 1 → i * width ≤ gaps * width
place_low width gaps i low = mul-le i width gaps width (omega (arith, low)) (omega arith)

pub next_place : (width gaps : ℕ) → (gaps + 1) * width ≡ gaps * width + width
next_place width gaps = omega arith

pub even_grown : (width gaps place : ℕ) (places : List ℕ) → even_places width (gaps + 1) ≡ places → (gaps + 1) * width ≡ place
    → even_places width (gaps + 1 + 1) ≡ places ++ place ∷ []
even_grown width gaps place places is next = even_more width (gaps + 1) ∙ λ t. is t ++ next t ∷ []

pub are_even : (width n : ℕ) (places : List ℕ) → 1 < n → places ≡ even_places width n → AreEven places
are_even width n places some is = λ i low.
    let below : i < n = omega (arith, low, ap length is, even_count width n) in
    let here = ap (λ (ps : List ℕ). get_or ps i 0) is ∙ even_at width n i below in
    let first = ap (λ (ps : List ℕ). get_or ps 1 0) is ∙ even_at width n 1 some in
    let one : 1 * width ≡ width = omega arith in
    here ∙ ap (λ w. i * w) (sym (first ∙ one))

pub even_last : (width n place : ℕ) → 1 < n → AreEven (even_places width n ++ place ∷ []) → place ≡ n * width
even_last width n place some h =
    let count = even_count width n in
    let all = length-append (even_places width n) (place ∷ []) in
    let none : n - n ≡ 0 = omega arith in
    let last : get_or (even_places width n ++ place ∷ []) n 0 ≡ place =
    get_or-append_right (even_places width n) (place ∷ []) n n 0 count (omega arith) ∙ ap (λ i. get_or (place ∷ []) i 0) none in
    let first : get_or (even_places width n ++ place ∷ []) 1 0 ≡ 1 * width =
    get_or_append_left (even_places width n) (place ∷ []) 0 1 (omega (arith, some, count)) ∙ even_at width n 1 some in
    let one : 1 * width ≡ width = omega arith in
    sym last ∙ h n (omega (arith, count, all)) ∙ ap (λ w. n * w) (first ∙ one)
