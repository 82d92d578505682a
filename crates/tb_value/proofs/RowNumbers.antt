-- Row numbers, one more at a time.
use Rattle.std.proofs.Common.{◌≡◌, ℕ, zero, suc, ◌+◌, ◌<◌, Bool, true, false, List, [], ◌∷◌, ◌++◌, length, get_or, map, refl, ap, arith, sym, ◌∙◌}
use Rattle.std.specs.Prelude.{All, cond, filter}
use Rattle.std.specs.List.{range_with_len, list_all, list_any, flat_map}
use Rattle.std.proofs.lemmas.List.{map-append, append-nil, append_assoc}
use Rattle.std.proofs.lemmas.List.Elements.{filter-append}
use Rattle.std.proofs.lemmas.List.Concat.{flat_map-append}
use Rattle.tb_value.specs.declared.index.JoinPair.{JoinPair}
use Rattle.tb_value.specs.Promise.Pairs.{row_numbers, both, matched_pairs}
use Rattle.std.proofs.lemmas.List.Folds.{list_all-append, list_all_at, list_any-append, list_any_at}
use Rattle.std.proofs.lemmas.List.FromFn.{length-range_with_len, get_or-range_with_len}
use Rattle.std.proofs.lemmas.Bool.{and_from, or_from}

-- the row numbers of n rows are below n
pub rows_below : (n : ℕ) → All (λ i. i < n) (row_numbers n)
rows_below n = λ k d low.
    let long : length (row_numbers n) ≡ n = length-range_with_len 0 n in
    let here : k < n = omega (arith, long) in
    let at = get_or-range_with_len 0 n k d here in
    omega (arith, at, here)

-- numbers in a row, in two runs
pub range_cut : (a m k : ℕ) → range_with_len a (m + k) ≡ range_with_len a m ++ range_with_len (a + m) k
range_cut a zero k =
    let e : a ≡ a + 0 = omega arith in
    let s : 0 + k ≡ k = omega arith in
    ap (range_with_len a) s ∙ ap (λ (b : ℕ). range_with_len b k) e
range_cut a (suc m) k =
    let e : (a + 1) + m ≡ a + suc m = omega arith in
    let s : suc m + k ≡ suc (m + k) = omega arith in
    ap (range_with_len a) s ∙ ap (λ (l : List ℕ). a ∷ l) (range_cut (a + 1) m k)
    ∙ ap (λ (b : ℕ). a ∷ (range_with_len (a + 1) m ++ range_with_len b k)) e

pub range_more : (a n : ℕ) → range_with_len a (n + 1) ≡ range_with_len a n ++ (a + n) ∷ []
range_more a n = range_cut a n 1

pub row_numbers_more : (n : ℕ) → row_numbers (n + 1) ≡ row_numbers n ++ n ∷ []
row_numbers_more n =
    let z : 0 + n ≡ n = omega arith in
    range_more 0 n ∙ ap (λ (k : ℕ). row_numbers n ++ k ∷ []) z

-- a test of each row number, one more, and where one fails
pub all_more : (f : ℕ → Bool) (n : ℕ) → list_all f (row_numbers n) ≡ true → f n ≡ true → list_all f (row_numbers (n + 1)) ≡ true
all_more f n h k =
    ap (list_all f) (row_numbers_more n) ∙ list_all-append f (row_numbers n) (n ∷ []) ∙ and_from (list_all f (row_numbers n)) (list_all f (n ∷ [])) h (and_from (f n) true k refl)

pub all_stop : (f : ℕ → Bool) (k n : ℕ) → k < n → f k ≡ false → false ≡ list_all f (row_numbers n)
all_stop f k n low h =
    let long : length (row_numbers n) ≡ n = length-range_with_len 0 n in
    let at : get_or (row_numbers n) k 0 ≡ k = get_or-range_with_len 0 n k 0 low ∙ omega arith in
    sym (list_all_at f (row_numbers n) k 0 (omega (arith, long)) (ap f at ∙ h))

-- a filter of the row numbers, one more
pub kept_more : {X : Type 0} (f : ℕ → X) (p : ℕ → Bool) (n : ℕ) (b : Bool) → p n ≡ b → map f (filter p (row_numbers (n + 1))) ≡ map f (filter p (row_numbers n)) ++ cond b (f n ∷ []) []
kept_more {X} f p n b e =
    ap (λ (l : List ℕ). map f (filter p l)) (row_numbers_more n)
    ∙ ap (map f) (filter-append p (row_numbers n) (n ∷ []))
    ∙ map-append f (filter p (row_numbers n)) (filter p (n ∷ []))
    ∙ ap (λ (l : List X). map f (filter p (row_numbers n)) ++ l) (ap (λ (c : Bool). map f (cond c (n ∷ []) [])) e ∙ one b)
  where
    one : (c : Bool) → map f (cond c (n ∷ []) []) ≡ cond c (f n ∷ []) []
    one true = refl
    one false = refl

pub matched_more : (l r : ℕ) (m : ℕ → ℕ → Bool) → matched_pairs (l + 1) r m ≡ matched_pairs l r m ++ map (both l) (filter (m l) (row_numbers r))
matched_more l r m =
    ap (flat_map (λ i. map (both i) (filter (m i) (row_numbers r)))) (row_numbers_more l)
    ∙ flat_map-append (λ i. map (both i) (filter (m i) (row_numbers r))) (row_numbers l) (l ∷ [])
    ∙ ap (λ (x : List JoinPair). matched_pairs l r m ++ x) (append-nil (map (both l) (filter (m l) (row_numbers r))))

pub any_more : (f : ℕ → Bool) (n : ℕ) → list_any f (row_numbers n) ≡ false → f n ≡ false → list_any f (row_numbers (n + 1)) ≡ false
any_more f n h k =
    ap (list_any f) (row_numbers_more n) ∙ list_any-append f (row_numbers n) (n ∷ []) ∙ or_from (list_any f (row_numbers n)) (list_any f (n ∷ [])) h (or_from (f n) false k refl)

pub any_stop : (f : ℕ → Bool) (k n : ℕ) → k < n → f k ≡ true → true ≡ list_any f (row_numbers n)
any_stop f k n low h =
    let long : length (row_numbers n) ≡ n = length-range_with_len 0 n in
    let at : get_or (row_numbers n) k 0 ≡ k = get_or-range_with_len 0 n k 0 low ∙ omega arith in
    sym (list_any_at f (row_numbers n) k 0 (omega (arith, long)) (ap f at ∙ h))

-- a loop's step: the row at hand passes, or it does not
pub kept_push : {X : Type 0} (f : ℕ → X) (p : ℕ → Bool) (n : ℕ) (start xs : List X) (x : X) → xs ≡ start ++ map f (filter p (row_numbers n)) → p n ≡ true → x ≡ f n → xs ++ x ∷ [] ≡ start ++ map f (filter p (row_numbers (n + 1)))
kept_push {X} f p n start xs x h k e =
    ap (λ (l : List X). l ++ x ∷ []) h
    ∙ append_assoc start (map f (filter p (row_numbers n))) (x ∷ [])
    ∙ ap (λ (l : List X). start ++ l) (ap (λ (y : X). map f (filter p (row_numbers n)) ++ y ∷ []) e ∙ sym (kept_more f p n true k))

pub kept_skip : {X : Type 0} (f : ℕ → X) (p : ℕ → Bool) (n : ℕ) (start xs : List X) → xs ≡ start ++ map f (filter p (row_numbers n)) → p n ≡ false → xs ≡ start ++ map f (filter p (row_numbers (n + 1)))
kept_skip {X} f p n start xs h k = h ∙ ap (λ (l : List X). start ++ l) (sym (kept_more f p n false k ∙ append-nil (map f (filter p (row_numbers n)))))
