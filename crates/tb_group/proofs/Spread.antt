-- Rows that fall into parts, one part after another.
use Rattle.std.proofs.Common.{◌≡◌, ◌∙◌, ◌+◌, ◌<◌, ◌≤◌, ℕ, zero, suc, Bool, true, false, not, ◌&&◌, ◌||◌, eqb, ltb, List, [], ◌∷◌, filter, cond, length, length-append, refl, sym, ap, arith}
use Rattle.std.specs.List.{flat_map, list_any, range_with_len}
use Rattle.std.proofs.lemmas.Bool.{lt-ltb}
use Rattle.std.proofs.lemmas.Bool.Decides.{nat_tests}
use Rattle.std.proofs.lemmas.List.Folds.{list_any-append}
use Rattle.tb_value.specs.Promise.Pairs.{row_numbers}
use Rattle.tb_rows.specs.Promise.Rows.{first_rows, is_first}
use Rattle.tb_group.specs.Order.{is_listed}

any_kept : (p q : ℕ → Bool) (xs : List ℕ) → list_any q (filter p xs) ≡ list_any (λ x. p x && q x) xs
any_kept p q [] = refl
any_kept p q (x ∷ xs) = by (p x) (any_kept p q xs)
  where
    by : (b : Bool) → list_any q (filter p xs) ≡ list_any (λ y. p y && q y) xs → list_any q (cond b (x ∷ filter p xs) (filter p xs)) ≡ ((b && q x) || list_any (λ y. p y && q y) xs)
    by true k = ap (λ (b : Bool). q x || b) k
    by false k = k

any_of_two : (p r q : ℕ → Bool) (xs : List ℕ) → (list_any (λ x. p x && q x) xs || list_any (λ x. r x && q x) xs) ≡ list_any (λ x. (p x || r x) && q x) xs
any_of_two p r q [] = refl
any_of_two p r q (x ∷ xs) = by (p x) (r x) (q x) (list_any (λ y. p y && q y) xs) (list_any (λ y. r y && q y) xs) ∙ ap (λ (b : Bool). ((p x || r x) && q x) || b) (any_of_two p r q xs)
  where
    by : (a b c d e : Bool) → (((a && c) || d) || ((b && c) || e)) ≡ (((a || b) && c) || (d || e))
    by true true true d e = refl
    by true true false d e = refl
    by true false true d e = refl
    by true false false d e = refl
    by false true true true e = refl
    by false true true false e = refl
    by false true false d e = refl
    by false false c d e = refl

none_of_none : (q : ℕ → Bool) (xs : List ℕ) → false ≡ list_any (λ x. false && q x) xs
none_of_none q [] = refl
none_of_none q (x ∷ xs) = none_of_none q xs

among : (n a x : ℕ) → a ≤ x → x < a + n → list_any (λ p. eqb p x) (range_with_len a n) ≡ true
among zero a x low high = absurd (omega (arith, low, high))
among (suc n) a x low high = by (eqb a x) refl (λ s. among n (a + 1) x s (omega (arith, high)))
  where
    by : (b : Bool) → eqb a x ≡ b → (a + 1 ≤ x → list_any (λ p. eqb p x) (range_with_len (a + 1) n) ≡ true) → (eqb a x || list_any (λ p. eqb p x) (range_with_len (a + 1) n)) ≡ true
    by true e k = ap (λ (b : Bool). b || list_any (λ p. eqb p x) (range_with_len (a + 1) n)) e
    by false e k = ap (λ (b : Bool). b || list_any (λ p. eqb p x) (range_with_len (a + 1) n)) e ∙ k (grind (arith, nat_tests, low, e))

module _ (part : ℕ → ℕ) (rows : List ℕ) (q : ℕ → Bool) where
  -- among the rows of some parts
  some_parts : (m a : ℕ) → list_any q (flat_map (λ p. filter (λ j. eqb p (part j)) rows) (range_with_len a m)) ≡ list_any (λ j. list_any (λ p. eqb p (part j)) (range_with_len a m) && q j) rows
  some_parts zero a = none_of_none q rows
  some_parts (suc m) a =
      list_any-append q (filter (λ j. eqb a (part j)) rows) (flat_map (λ p. filter (λ j. eqb p (part j)) rows) (range_with_len (a + 1) m))
      ∙ (λ t. any_kept (λ j. eqb a (part j)) q rows t || some_parts m (a + 1) t)
      ∙ any_of_two (λ j. eqb a (part j)) (λ j. list_any (λ p. eqb p (part j)) (range_with_len (a + 1) m)) q rows

  -- among the rows of all parts
  all_parts : (parts : ℕ) → ((j : ℕ) → part j < parts) → list_any q (flat_map (λ p. filter (λ j. eqb p (part j)) rows) (row_numbers parts)) ≡ list_any q rows
  all_parts parts low = some_parts parts 0 ∙ (λ t. list_any (λ j. among parts 0 (part j) (omega arith) (let at : part j < parts = low j in omega (arith, at)) t && q j) rows)

-- a row is among those that pass where it is among all and passes
passes : (f : ℕ → Bool) (i : ℕ) (xs : List ℕ) → list_any (λ r. eqb r i) (filter f xs) ≡ (list_any (λ r. eqb r i) xs && f i)
passes f i [] = refl
passes f i (x ∷ xs) = by (f x) (eqb x i) refl refl (passes f i xs)
  where
    by : (b c : Bool) → f x ≡ b → eqb x i ≡ c → list_any (λ r. eqb r i) (filter f xs) ≡ (list_any (λ r. eqb r i) xs && f i)
        → list_any (λ r. eqb r i) (cond (f x) (x ∷ filter f xs) (filter f xs)) ≡ ((eqb x i || list_any (λ r. eqb r i) xs) && f i)
    by true true e s k =
        let same : x ≡ i = grind (arith, nat_tests, s) in
        ap (λ (b : Bool). list_any (λ r. eqb r i) (cond b (x ∷ filter f xs) (filter f xs))) e
        ∙ ap (λ (b : Bool). b || list_any (λ r. eqb r i) (filter f xs)) s
        ∙ sym (ap (λ (b : Bool). (b || list_any (λ r. eqb r i) xs) && f i) s ∙ sym (ap f same) ∙ e)
    by true false e s k =
        ap (λ (b : Bool). list_any (λ r. eqb r i) (cond b (x ∷ filter f xs) (filter f xs))) e
        ∙ ap (λ (b : Bool). b || list_any (λ r. eqb r i) (filter f xs)) s
        ∙ k ∙ sym (ap (λ (b : Bool). (b || list_any (λ r. eqb r i) xs) && f i) s)
    by false true e s k =
        let same : x ≡ i = grind (arith, nat_tests, s) in
        let off : f i ≡ false = sym (ap f same) ∙ e in
        ap (λ (b : Bool). list_any (λ r. eqb r i) (cond b (x ∷ filter f xs) (filter f xs))) e
        ∙ k ∙ ap (λ (b : Bool). list_any (λ r. eqb r i) xs && b) off ∙ none (list_any (λ r. eqb r i) xs)
        ∙ sym (ap (λ (b : Bool). (b || list_any (λ r. eqb r i) xs) && f i) s ∙ off)
      where
        none : (b : Bool) → (b && false) ≡ false
        none true = refl
        none false = refl
    by false false e s k =
        ap (λ (b : Bool). list_any (λ r. eqb r i) (cond b (x ∷ filter f xs) (filter f xs))) e
        ∙ k ∙ sym (ap (λ (b : Bool). (b || list_any (λ r. eqb r i) xs) && f i) s)

alike_in : (p q : ℕ → Bool) (n a : ℕ) → ((i : ℕ) → a ≤ i → i < a + n → p i ≡ q i) → filter p (range_with_len a n) ≡ filter q (range_with_len a n)
alike_in p q zero a h = refl
alike_in p q (suc n) a h =
    ap (λ (b : Bool). cond b (a ∷ filter p (range_with_len (a + 1) n)) (filter p (range_with_len (a + 1) n))) (h a (omega arith) (omega arith))
    ∙ ap (λ (l : List ℕ). cond (q a) (a ∷ l) l) (alike_in p q n (a + 1) (λ i low high. h i (omega (arith, low)) (omega (arith, high))))

-- two tests of which one passes exactly where a third does
counted_apart : (p q r : ℕ → Bool) → ((x : ℕ) → (p x ≡ true) → q x ≡ false) → ((x : ℕ) → r x ≡ (p x || q x)) → (xs : List ℕ) → length (filter p xs) + length (filter q xs) ≡ length (filter r xs)
counted_apart p q r apart either [] = refl
counted_apart p q r apart either (x ∷ xs) = by (p x) (q x) (r x) refl refl (either x) (counted_apart p q r apart either xs)
  where
    by : (a b c : Bool) → p x ≡ a → q x ≡ b → r x ≡ (p x || q x) → length (filter p xs) + length (filter q xs) ≡ length (filter r xs)
        → length (filter p (x ∷ xs)) + length (filter q (x ∷ xs)) ≡ length (filter r (x ∷ xs))
    by true true c e f h k = absurd (let n : true ≡ false = sym f ∙ apart x e in cc)
    by true false c e f h k =
        let g : r x ≡ true = h ∙ (λ t. e t || f t) in
        ap (λ (t : Bool). length (cond t (x ∷ filter p xs) (filter p xs)) + length (filter q (x ∷ xs))) e
        ∙ ap (λ (t : Bool). length (x ∷ filter p xs) + length (cond t (x ∷ filter q xs) (filter q xs))) f
        ∙ omega (arith, k)
        ∙ sym (ap (λ (t : Bool). length (cond t (x ∷ filter r xs) (filter r xs))) g)
    by false true c e f h k =
        let g : r x ≡ true = h ∙ (λ t. e t || f t) in
        ap (λ (t : Bool). length (cond t (x ∷ filter p xs) (filter p xs)) + length (filter q (x ∷ xs))) e
        ∙ ap (λ (t : Bool). length (filter p xs) + length (cond t (x ∷ filter q xs) (filter q xs))) f
        ∙ omega (arith, k)
        ∙ sym (ap (λ (t : Bool). length (cond t (x ∷ filter r xs) (filter r xs))) g)
    by false false c e f h k =
        let g : r x ≡ false = h ∙ (λ t. e t || f t) in
        ap (λ (t : Bool). length (cond t (x ∷ filter p xs) (filter p xs)) + length (filter q (x ∷ xs))) e
        ∙ ap (λ (t : Bool). length (filter p xs) + length (cond t (x ∷ filter q xs) (filter q xs))) f
        ∙ k
        ∙ sym (ap (λ (t : Bool). length (cond t (x ∷ filter r xs) (filter r xs))) g)

pub kept_few : (p : ℕ → Bool) (xs : List ℕ) → length (filter p xs) ≤ length xs
kept_few p [] = omega arith
kept_few p (x ∷ xs) = by (p x) (kept_few p xs)
  where
    by : (b : Bool) → length (filter p xs) ≤ length xs → length (cond b (x ∷ filter p xs) (filter p xs)) ≤ length (x ∷ xs)
    by true h = omega (arith, h)
    by false h = omega (arith, h)

module _ (part : ℕ → ℕ) where
  -- the rows of each part, one part after another
  abbrev pub spread : ℕ → List ℕ → List ℕ
  spread parts rows = flat_map (λ p. filter (λ j. eqb p (part j)) rows) (row_numbers parts)

  some_few : (xs : List ℕ) (m a : ℕ) → length (flat_map (λ p. filter (λ j. eqb p (part j)) xs) (range_with_len a m)) ≤ length (filter (λ j. not (ltb (part j) a)) xs)
  some_few xs zero a = omega arith
  some_few xs (suc m) a =
      let here : ℕ → Bool = λ j. eqb a (part j) in
      let later : ℕ → Bool = λ j. not (ltb (part j) (a + 1)) in
      let from : ℕ → Bool = λ j. not (ltb (part j) a) in
      let sum : length (filter here xs) + length (filter later xs) ≡ length (filter from xs)
      = counted_apart here later from (λ x e. never a (part x) e) (λ x. both a (part x)) xs in
      omega (arith, length-append (filter here xs) (flat_map (λ p. filter (λ j. eqb p (part j)) xs) (range_with_len (a + 1) m)), some_few xs m (a + 1), sum)
    where
      never : (a k : ℕ) → eqb a k ≡ true → not (ltb k (a + 1)) ≡ false
      never a k e = let s : a ≡ k = grind (arith, nat_tests, e) in ap not (lt-ltb k (a + 1) (omega (arith, s)))

      both : (a k : ℕ) → not (ltb k a) ≡ (eqb a k || not (ltb k (a + 1)))
      both a k = by (ltb k a) (eqb a k) (ltb k (a + 1)) refl refl refl
        where
          by : (x y z : Bool) → ltb k a ≡ x → eqb a k ≡ y → ltb k (a + 1) ≡ z → not (ltb k a) ≡ (eqb a k || not (ltb k (a + 1)))
          by x y z e f g = grind (arith, nat_tests)

  -- there are no more of them
  pub spread_few : (parts : ℕ) (xs : List ℕ) → length (spread parts xs) ≤ length xs
  spread_few parts xs = omega (arith, some_few xs parts 0, kept_few (λ j. not (ltb (part j) 0)) xs)

  module _ (parts : ℕ) (low : (j : ℕ) → part j < parts) where
    -- the first rows of all parts, in the order of the rows, are the first rows
    pub firsts_in_order : (test : ℕ → ℕ → Bool) (n : ℕ) → filter (is_listed (spread parts (first_rows test n))) (row_numbers n) ≡ first_rows test n
    firsts_in_order test n =
        let all : List ℕ = spread parts (first_rows test n) in
        alike_in (is_listed all) (is_first test) n 0
        (λ i from to. all_parts part (first_rows test n) (λ r. eqb r i) parts low ∙ passes (is_first test) i (row_numbers n)
        ∙ ap (λ (b : Bool). b && is_first test i) (among n 0 i from to))
