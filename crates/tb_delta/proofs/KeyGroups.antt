-- The rows of groups that are put under their keys, one group after another.
use Rattle.std.proofs.Common.{◌≡◌, ◌∙◌, ◌<◌, ◌+◌, ℕ, Bool, true, false, cond, ◌&&◌, eqb, nat_lt, if◌then◌else◌, List, [], ◌∷◌, ◌++◌, filter, get_or, length, refl, sym, ap, arith, ⊎_elim}
use Rattle.std.specs.Cmp.{second_so}
use Rattle.std.specs.List.{All}
use Rattle.std.proofs.lemmas.Bool.{cases_Bool}
use Rattle.std.proofs.lemmas.List.Elements.{All-tail}
use Rattle.tb_value.specs.Promise.Datum.{Datum, null}
use Rattle.tb_value.specs.Promise.Pairs.{row_numbers}
use Rattle.tb_value.specs.Promise.Same.{agrees, same}
use Rattle.tb_value.specs.Proved.ValueTests.{same-Decides}
use Rattle.tb_value.proofs.RowNumbers.{rows_below}
use Rattle.tb_delta.specs.Inside.{is_grouped}
use Rattle.tb_delta.specs.Keys.{ties}
use Rattle.tb_delta.specs.Proved.KeyOrder.{ties-equal}
use Rattle.tb_delta.specs.TakenUp.{led}
use Rattle.tb_delta.proofs.Agreeing.{agrees-ties}

alike_in : (p q : ℕ → Bool) (xs : List ℕ) → All (λ i. p i ≡ q i) xs → filter p xs ≡ filter q xs
alike_in p q [] all = refl
alike_in p q (x ∷ xs) all =
    let here : p x ≡ q x = all 0 0 (omega arith) in
    let rest : filter p xs ≡ filter q xs = alike_in p q xs (All-tail (λ i. p i ≡ q i) x xs all) in
    λ t. cond (here t) (x ∷ rest t) (rest t)

-- tests that tell the same of each row
pub alike : (p q : ℕ → Bool) (n : ℕ) → ((i : ℕ) → i < n → p i ≡ q i) → filter p (row_numbers n) ≡ filter q (row_numbers n)
alike p q n each = alike_in p q (row_numbers n) (λ k d low. each (get_or (row_numbers n) k d) (rows_below n k d low))

none_in : (xs : List ℕ) → filter (λ _. false) xs ≡ []
none_in [] = refl
none_in (x ∷ xs) = none_in xs

and_false : (b : Bool) → (b && false) ≡ false
and_false true = refl
and_false false = refl

and_true : (b : Bool) → (b && true) ≡ b
and_true true = refl
and_true false = refl

-- fields that agree are equal
agree_equal : (nulls : Bool) (a b : Datum) → agrees nulls a b ≡ true → a ≡ b
agree_equal nulls a b h = ties-equal a b (second_so (is_grouped nulls a) (ties a b) (sym (agrees-ties nulls a b) ∙ h))

module _ (nulls : Bool) (vs : List Datum) (numbers firsts : List ℕ)
    (long : length numbers ≡ length vs)
    (below : All (λ p. p < length firsts) numbers)
    (told : (p j : ℕ) → p < length firsts → j < length vs → eqb (get_or numbers j 0) p ≡ same (get_or vs (get_or firsts p 0) null) (get_or vs j null)) where
  led_none : (k : Datum) → led nulls vs numbers 0 k ≡ []
  led_none k =
      alike (λ i. agrees nulls (get_or vs i null) k && nat_lt (get_or numbers i 0) 0) (λ _. false) (length vs)
      (λ i low. let none : nat_lt (get_or numbers i 0) 0 ≡ false = grind (arith) in
      ap (λ b. agrees nulls (get_or vs i null) k && b) none ∙ and_false (agrees nulls (get_or vs i null) k))
      ∙ none_in (row_numbers (length vs))

  led_all : (p : ℕ) (k : Datum) → p ≡ length firsts → led nulls vs numbers p k ≡ filter (λ i. agrees nulls (get_or vs i null) k) (row_numbers (length vs))
  led_all p k is =
      alike (λ i. agrees nulls (get_or vs i null) k && nat_lt (get_or numbers i 0) p) (λ i. agrees nulls (get_or vs i null) k) (length vs)
      (λ i low. let under : get_or numbers i 0 < length firsts = below i 0 (omega (arith, low, long)) in
      let all : nat_lt (get_or numbers i 0) p ≡ true = grind (arith, under, is) in
      ap (λ b. agrees nulls (get_or vs i null) k && b) all ∙ and_true (agrees nulls (get_or vs i null) k))

  pub put_first : (own : Bool) (now : List ℕ) (k : Datum) → (own ≡ true → now ≡ []) → now ≡ (if own then led nulls vs numbers 0 k else now)
  put_first true now k none = none refl ∙ sym (led_none k)
  put_first false now k none = refl

  pub put_all : (p : ℕ) (k : Datum) → p ≡ length firsts → (own : Bool) (now init : List ℕ) → now ≡ (if own then led nulls vs numbers p k else init)
      → now ≡ (if own then filter (λ i. agrees nulls (get_or vs i null) k) (row_numbers (length vs)) else init)
  put_all p k is own now init was = was ∙ ap (λ l. if own then l else init) (led_all p k is)

  module _ (p : ℕ) (low : p < length firsts) (k : Datum) where
    abbrev key : Datum
    key = get_or vs (get_or firsts p 0) null

    same_key : (i : ℕ) → i < length vs → eqb (get_or numbers i 0) p ≡ true → agrees nulls (get_or vs i null) k ≡ agrees nulls key k
    same_key i under e = ap (λ d. agrees nulls d k) (sym ((same-Decides key (get_or vs i null)).0 (sym (told p i low under) ∙ e)))

    other_key : (i : ℕ) → i < length vs → eqb (get_or numbers i 0) p ≡ false → agrees nulls key k ≡ true → agrees nulls (get_or vs i null) k ≡ false
    other_key i under e here = ⊎_elim
        (λ y. let is : key ≡ get_or vs i null = agree_equal nulls key k here ∙ sym (agree_equal nulls (get_or vs i null) k y) in
        let apart : true ≡ false = sym ((same-Decides key (get_or vs i null)).1 is) ∙ sym (told p i low under) ∙ e in
        absurd (cc))
        (λ n. n)
        (cases_Bool (agrees nulls (get_or vs i null) k))

    -- the key agrees: no row before does, and those of the group do
    before : (i : ℕ) → i < length vs → agrees nulls key k ≡ true → (agrees nulls (get_or vs i null) k && nat_lt (get_or numbers i 0) p) ≡ false
    before i under here = ⊎_elim
        (λ y. let not_less : nat_lt (get_or numbers i 0) p ≡ false = grind (arith, y) in
        ap (λ b. agrees nulls (get_or vs i null) k && b) not_less ∙ and_false (agrees nulls (get_or vs i null) k))
        (λ n. ap (λ b. b && nat_lt (get_or numbers i 0) p) (other_key i under n here))
        (cases_Bool (eqb (get_or numbers i 0) p))

    group : (i : ℕ) → i < length vs → agrees nulls key k ≡ true → eqb (get_or numbers i 0) p ≡ (agrees nulls (get_or vs i null) k && nat_lt (get_or numbers i 0) (p + 1))
    group i under here = ⊎_elim
        (λ y. let less : nat_lt (get_or numbers i 0) (p + 1) ≡ true = grind (arith, y) in
        y ∙ sym (ap (λ b. b && nat_lt (get_or numbers i 0) (p + 1)) (same_key i under y ∙ here) ∙ less))
        (λ n. n ∙ sym (ap (λ b. b && nat_lt (get_or numbers i 0) (p + 1)) (other_key i under n here)))
        (cases_Bool (eqb (get_or numbers i 0) p))

    -- it doesn't: none of the group does
    stays : (i : ℕ) → i < length vs → agrees nulls key k ≡ false → (agrees nulls (get_or vs i null) k && nat_lt (get_or numbers i 0) p) ≡ (agrees nulls (get_or vs i null) k && nat_lt (get_or numbers i 0) (p + 1))
    stays i under here = ⊎_elim
        (λ y. ap (λ b. b && nat_lt (get_or numbers i 0) p) (same_key i under y ∙ here) ∙ sym (ap (λ b. b && nat_lt (get_or numbers i 0) (p + 1)) (same_key i under y ∙ here)))
        (λ n. let less : nat_lt (get_or numbers i 0) p ≡ nat_lt (get_or numbers i 0) (p + 1) = grind (arith, n) in
        ap (λ b. agrees nulls (get_or vs i null) k && b) less)
        (cases_Bool (eqb (get_or numbers i 0) p))

    -- the next group is put behind
    led_next : (if agrees nulls key k then led nulls vs numbers p k ++ filter (λ j. eqb (get_or numbers j 0) p) (row_numbers (length numbers)) else led nulls vs numbers p k) ≡ led nulls vs numbers (p + 1) k
    led_next = ⊎_elim
        (λ y. let none : led nulls vs numbers p k ≡ [] =
        alike (λ i. agrees nulls (get_or vs i null) k && nat_lt (get_or numbers i 0) p) (λ _. false) (length vs) (λ i under. before i under y) ∙ none_in (row_numbers (length vs)) in
        ap (λ b. if b then led nulls vs numbers p k ++ filter (λ j. eqb (get_or numbers j 0) p) (row_numbers (length numbers)) else led nulls vs numbers p k) y
        ∙ (λ t. none t ++ filter (λ j. eqb (get_or numbers j 0) p) (row_numbers (long t)))
        ∙ alike (λ j. eqb (get_or numbers j 0) p) (λ i. agrees nulls (get_or vs i null) k && nat_lt (get_or numbers i 0) (p + 1)) (length vs) (λ i under. group i under y))
        (λ n. ap (λ b. if b then led nulls vs numbers p k ++ filter (λ j. eqb (get_or numbers j 0) p) (row_numbers (length numbers)) else led nulls vs numbers p k) n
        ∙ alike (λ i. agrees nulls (get_or vs i null) k && nat_lt (get_or numbers i 0) p) (λ i. agrees nulls (get_or vs i null) k && nat_lt (get_or numbers i 0) (p + 1)) (length vs) (λ i under. stays i under n))
        (cases_Bool (agrees nulls key k))

    -- the ids under a key, when the next group is put
    pub put_next : (own : Bool) (now old init : List ℕ)
        → now ≡ (if own && agrees nulls key k then old ++ filter (λ j. eqb (get_or numbers j 0) p) (row_numbers (length numbers)) else old)
        → old ≡ (if own then led nulls vs numbers p k else init)
        → now ≡ (if own then led nulls vs numbers (p + 1) k else init)
    put_next true now old init is was = is ∙ ap (λ l. if agrees nulls key k then l ++ filter (λ j. eqb (get_or numbers j 0) p) (row_numbers (length numbers)) else l) was ∙ led_next
    put_next false now old init is was = is ∙ was
