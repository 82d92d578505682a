-- Keys that are written one behind another.
use Rattle.std.proofs.Common.{◌≡◌, ◌⊎◌, inl, inr, ◌+◌, ◌-◌, ◌<◌, ◌≤◌, ◌^◌, ℕ, List, [], ◌∷◌, ◌++◌, length, length-drop, get_or, map, take, drop, zero, suc, zero-add, Option, Some, None, refl, ap, sym, subst, ◌∙◌, arith}
use Rattle.std.proofs.lemmas.Bool.{cases_lt}
use Rattle.std.proofs.lemmas.List.{length-append, length-map, take_all, drop_at, take-append-le, drop-append-le, get_or_append_left, get_or-append_right}
use Rattle.tb_value.specs.declared.limits.TheConstants.{MAX_ROWS}
use Rattle.std.specs.Prelude.{IfSome}
use Rattle.std.specs.List.{range_with_len}
use Rattle.std.proofs.lemmas.List.FromFn.{length-range_with_len, get_or-map-range_with_len}
use Rattle.std.proofs.lemmas.Simd.{map-map}
use Rattle.tb_value.specs.Promise.Datum.{Datum}
use Rattle.tb_value.specs.Promise.Pairs.{row_numbers}
use Rattle.tb_chunk.specs.Chunk.{or_null}
use Rattle.tb_rowkey.specs.RowKeys.{bytes_at, key_of, keys_in, ArePlaces}

cut_old : (bytes more : List ℕ) (a b : ℕ) → a ≤ length bytes → b ≤ length bytes → take (b - a) (drop a (bytes ++ more)) ≡ take (b - a) (drop a bytes)
cut_old bytes more a b la lb =
    ap (take (b - a)) (drop-append-le a bytes more la)
    ∙ take-append-le (b - a) (drop a bytes) more (let long = length-drop a bytes in omega (arith, long, la, lb))

cut_new : (bytes more : List ℕ) (a b : ℕ) → a ≡ length bytes → b ≡ length bytes + length more → take (b - a) (drop a (bytes ++ more)) ≡ more
cut_new bytes more a b ea eb =
    ap (take (b - a)) (drop_at bytes more a (sym ea)) ∙ take_all (b - a) more (omega (arith, ea, eb))

-- the bytes and the places of the keys of n rows
module _ (key : ℕ → List ℕ) where
  pub record AreWritten (n : ℕ) (bytes places : List ℕ) : Type 0 where
    pub count : length places ≡ n + 1
    pub last : get_or places n 0 ≡ length bytes
    pub within : (i : ℕ) → i < n + 1 → get_or places i 0 ≤ length bytes
    pub gaps : (i : ℕ) → i < n → get_or places (i + 1) 0 ≡ get_or places i 0 + length (key i)
    pub keys : (i : ℕ) → i < n → bytes_at bytes places i ≡ key i

  pub first_written : (bytes places : List ℕ) → bytes ≡ [] → places ≡ 0 ∷ [] → AreWritten 0 bytes places
  first_written bytes places is_bytes is_places = record {
    count = ap length is_places;
    last = ap (λ l. get_or l 0 0) is_places ∙ ap length (sym is_bytes);
    within = λ i low. let e : i ≡ 0 = omega arith in let z = ap (λ l. get_or l i 0) is_places ∙ ap (λ j. get_or (0 ∷ []) j 0) e in omega (arith, z);
    gaps = λ i low. absurd (omega arith);
    keys = λ i low. absurd (omega arith);
  }

  module _ (n : ℕ) (bytes places more after : List ℕ) (w : AreWritten n bytes places) (is_more : more ≡ bytes ++ key n)
      (is_after : after ≡ places ++ length more ∷ []) where
    at_old : (i : ℕ) → i < n + 1 → get_or after i 0 ≡ get_or places i 0
    at_old i low = let many = w.count in ap (λ l. get_or l i 0) is_after ∙ get_or_append_left places (length more ∷ []) 0 i (omega (arith, low, many))

    at_new : get_or after (n + 1) 0 ≡ length more
    at_new =
        let many = w.count in
        let e : n + 1 - (n + 1) ≡ 0 = omega arith in
        ap (λ l. get_or l (n + 1) 0) is_after ∙ get_or-append_right places (length more ∷ []) (n + 1) (n + 1) 0 many (omega arith)
        ∙ ap (λ i. get_or (length more ∷ []) i 0) e

    longer : length more ≡ length bytes + length (key n)
    longer = ap length is_more ∙ length-append bytes (key n)

    within_more : (i : ℕ) → i < n + 1 + 1 → (i < n + 1) ⊎ (n + 1 ≤ i) → get_or after i 0 ≤ length more
    within_more i low (inl before) = let old = at_old i before in let under = w.within i before in let long = longer in omega (arith, old, under, long)
    within_more i low (inr here) = let e : i ≡ n + 1 = omega (arith, low, here) in let new = ap (λ k. get_or after k 0) e ∙ at_new in omega (arith, new)

    gap_more : (i : ℕ) → i < n + 1 → (i < n) ⊎ (n ≤ i) → get_or after (i + 1) 0 ≡ get_or after i 0 + length (key i)
    gap_more i low (inl before) =
        let a = at_old i low in
        let b = at_old (i + 1) (omega (arith, before)) in
        let gap = w.gaps i before in
        omega (arith, a, b, gap)
    gap_more i low (inr here) =
        let e : i ≡ n = omega (arith, low, here) in
        let a = at_old n (omega arith) in
        let b = at_new in
        let last = w.last in
        let long = longer in
        subst (λ k. get_or after (k + 1) 0 ≡ get_or after k 0 + length (key k)) (sym e) (omega (arith, a, b, last, long))

    key_more : (i : ℕ) → i < n + 1 → (i < n) ⊎ (n ≤ i) → bytes_at more after i ≡ key i
    key_more i low (inl before) =
        let a = at_old i low in
        let b = at_old (i + 1) (omega (arith, before)) in
        ◌∙◌ {A = List ℕ} (λ t. take (b t - a t) (drop (a t) (is_more t)))
        (cut_old bytes (key n) (get_or places i 0) (get_or places (i + 1) 0) (w.within i low) (w.within (i + 1) (omega (arith, before))) ∙ w.keys i before)
    key_more i low (inr here) =
        let e : i ≡ n = omega (arith, low, here) in
        let a = at_old n (omega arith) ∙ w.last in
        let b = at_new ∙ longer in
        subst (λ k. bytes_at more after k ≡ key k) (sym e)
        (ap (λ l. take (get_or after (n + 1) 0 - get_or after n 0) (drop (get_or after n 0) l)) is_more
        ∙ cut_new bytes (key n) (get_or after n 0) (get_or after (n + 1) 0) a b)

    pub written_more : AreWritten (n + 1) more after
    written_more =
        let many = w.count in
        let one = ap length is_after ∙ length-append places (length more ∷ []) in
        record {
          count = omega (arith, one, many);
          last = at_new;
          within = λ i low. within_more i low (cases_lt i (n + 1));
          gaps = λ i low. gap_more i low (cases_lt i n);
          keys = λ i low. key_more i low (cases_lt i n);
        }

  -- they stand at places, where the keys are short
  pub written_places : (n : ℕ) (bytes places : List ℕ) → AreWritten n bytes places → n ≤ MAX_ROWS → ((i : ℕ) → i < n → length (key i) < 2 ^ 32) → ArePlaces bytes places
  written_places n bytes places w few short =
      let many = w.count in
      record {
        some = omega (arith, many);
        few = omega (arith, many, few);
        ordered = λ i low. let gap = w.gaps i (omega (arith, low, many)) in omega (arith, gap);
        within = λ i low. w.within i (omega (arith, low, many));
        short = λ i low. let gap = w.gaps i (omega (arith, low, many)) in let l = short i (omega (arith, low, many)) in omega (arith, gap, l);
      }

pub below_more : (P : ℕ → Type 0) (n : ℕ) → ((i : ℕ) → i < n → P i) → P n → (i : ℕ) → i < n + 1 → P i
below_more P n each here i low = by_place (cases_lt i n)
  where
    by_place : (i < n) ⊎ (n ≤ i) → P i
    by_place (inl before) = each i before
    by_place (inr past) = let e : n ≡ i = omega (arith, low, past) in subst P e here

-- THE KEYS

pub keys_count : (bytes places : List ℕ) → length (keys_in bytes places) ≡ length places - 1
keys_count bytes places = length-map (row_numbers (length places - 1)) (λ i. key_of (bytes_at bytes places i)) ∙ length-range_with_len 0 (length places - 1)

pub key_is : (bytes places : List ℕ) (i : ℕ) → i < length places - 1 → get_or (keys_in bytes places) i None ≡ key_of (bytes_at bytes places i)
key_is bytes places i low = get_or-map-range_with_len (λ k. key_of (bytes_at bytes places k)) 0 (length places - 1) i i None low (zero-add i)

mapped_same : {X : Type 0} (f g : ℕ → X) (a n : ℕ) → ((i : ℕ) → a ≤ i → i < a + n → f i ≡ g i) → map f (range_with_len a n) ≡ map g (range_with_len a n)
mapped_same f g a zero h = refl
mapped_same f g a (suc n) h = λ t. h a (omega arith) (omega arith) t ∷ mapped_same f g (a + 1) n (λ i low high. h i (omega (arith, low)) (omega (arith, high))) t

-- the keys that are written, where each is shown as one of the values
pub written_keys : (shows : List ℕ → Datum) (key : ℕ → List ℕ) (value : ℕ → Datum) (n : ℕ) (bytes places : List ℕ)
    → AreWritten key n bytes places → ((i : ℕ) → i < n → or_null shows (key_of (key i)) ≡ value i)
    → map (or_null shows) (keys_in bytes places) ≡ map value (row_numbers n)
written_keys shows key value n bytes places w shown =
    let many = w.count in
    let count : length places - 1 ≡ n = omega (arith, many) in
    map-map (or_null shows) (λ i. key_of (bytes_at bytes places i)) (row_numbers (length places - 1))
    ∙ ap (λ k. map (λ i. or_null shows (key_of (bytes_at bytes places i))) (row_numbers k)) count
    ∙ mapped_same (λ i. or_null shows (key_of (bytes_at bytes places i))) value 0 n
    (λ i low high. let under : i < n = omega (arith, high) in ap (λ l. or_null shows (key_of l)) (w.keys i under) ∙ shown i under)

pub row_low : (bytes places : List ℕ) (keys : List (Option (List ℕ))) (i : ℕ) → keys_in bytes places ≡ keys → i < length keys → i < length places - 1
row_low bytes places keys i is low = let count = keys_count bytes places in let same = ap length is in omega (arith, count, same, low)

pub some_weaker : {X : Type 0} (o : Option X) (P Q : X → Type 0) → ((x : X) → P x → Q x) → IfSome o P → IfSome o Q
some_weaker None P Q f h = h
some_weaker (Some x) P Q f h = f x h
