-- What is written of the probed rows is what the pairs of a join have.
use Rattle.std.proofs.Common.{◌≡◌, ℕ, ◌+◌, ◌<◌, ◌≤◌, ◌||◌, ◌&&◌, Bool, true, false, not, cond, nat_eq, List, [], ◌∷◌, ◌++◌, length, map, refl, ap, sym, ◌∙◌, arith, eq-eqb, eqb-true, zero, suc, subst, get_or, length-append, zero-add}
use Rattle.std.specs.Prelude.{filter, replicate}
use Rattle.std.specs.Borrow.{Bor}
use Rattle.std.specs.List.{flat_map, list_any, range_with_len}
use Rattle.std.proofs.lemmas.List.{map-append, append-nil, length-map}
use Rattle.std.proofs.lemmas.List.Filters.{length-filter_both}
use Rattle.std.proofs.lemmas.List.FromFn.{length-range_with_len, get_or-map-range_with_len}
use Rattle.std.proofs.lemmas.Map.Views.{any-filter_same}
use Rattle.tb_value.specs.declared.index.JoinPair.{JoinPair}
use Rattle.tb_value.specs.Promise.Pairs.{row_numbers, both, left_only, right_only, left_met, left_unmet, right_unmet, matched_pairs}
use Rattle.tb_value.specs.Pairs.{turn}
use Rattle.tb_value.proofs.Ascending.{kept_same}
use Rattle.tb_value.proofs.Loops.{flat_map_agree, map-flat_map, map-map}
use Rattle.tb_value.proofs.Probes.{left_pairs, each_left}
use Rattle.tb_value.proofs.RowNumbers.{any_stop}
use Rattle.tb_build.proofs.Lists.{get_or-map_any}
use Rattle.tb_frame.specs.declared.args.JoinType.{JoinType}
use Rattle.tb_frame.specs.declared.args.JoinType.TheVariants.{Inner, Left, Right, Full, Semi, Anti}
use Rattle.tb_frame.specs.declared.args.MaintainOrderJoin.TheVariants as order
use Rattle.tb_frame.specs.Promise.Join.{listing_of, IsOrdered}
use Rattle.tb_frame.proofs.InOrder.{left_way, right_way, in_order-ordered}
use Rattle.tb_row_join.specs.Promise.Rooms.{left_numbers, right_numbers, row_order, ArePairsHandedOver, IsHandedOver}
use Rattle.tb_row_join.specs.Lists.{beside, concatenated, no_row, not_in, or_alone, repeated, seen, is_bare, unlisted, unmatched}
use Rattle.tb_row_join.specs.Written.{built_numbers, is_right, probed_numbers, AreWritten}

-- THE LISTS THAT ARE LENT

concatenated-seen : (f : ℕ → List ℕ) (ns : List ℕ) (lists : List (Bor (List ℕ))) → seen lists ≡ map f ns → concatenated lists ≡ flat_map f ns
concatenated-seen f ns lists is = sym (joined (λ (r : Bor (List ℕ)). r.now) lists) ∙ ap (flat_map (λ (l : List ℕ). l)) is ∙ joined f ns
  where
    joined : {X : Type 0} (g : X → List ℕ) (xs : List X) → flat_map (λ (l : List ℕ). l) (map g xs) ≡ flat_map g xs
    joined g [] = refl
    joined g (x ∷ xs) = ap (λ (l : List ℕ). g x ++ l) (joined g xs)

counted : ℕ → List (List ℕ) → List ℕ
counted first [] = []
counted first (l ∷ ls) = replicate (length l) first ++ counted (first + 1) ls

counted-rows : (f : ℕ → List ℕ) (a n : ℕ) → counted a (map f (range_with_len a n)) ≡ flat_map (λ p. replicate (length (f p)) p) (range_with_len a n)
unfolding counted
counted-rows f a zero = refl
counted-rows f a (suc n) = ap (λ (l : List ℕ). replicate (length (f a)) a ++ l) (counted-rows f (a + 1) n)

repeated-seen : (first : ℕ) (lists : List (Bor (List ℕ))) → repeated first lists ≡ counted first (seen lists)
unfolding counted
repeated-seen first [] = refl
repeated-seen first (x ∷ xs) = ap (λ (l : List ℕ). replicate (length x.now) first ++ l) (repeated-seen (first + 1) xs)

-- THE PAIRS OF A ROW

matched-left : (i : ℕ) (js : List ℕ) → left_numbers (map (both i) js) ≡ replicate (length js) i
matched-left i [] = refl
matched-left i (j ∷ js) = ap (λ (l : List ℕ). i ∷ l) (matched-left i js)

matched-right : (i : ℕ) (js : List ℕ) → right_numbers (map (both i) js) ≡ js
matched-right i [] = refl
matched-right i (j ∷ js) = ap (λ (l : List ℕ). j ∷ l) (matched-right i js)

row-left : (i : ℕ) (js : List ℕ) → left_numbers (left_pairs i js) ≡ replicate (length (or_alone js)) i
row-left i [] = refl
row-left i (j ∷ js) = matched-left i (j ∷ js)

row-right : (i : ℕ) (js : List ℕ) → right_numbers (left_pairs i js) ≡ or_alone js
row-right i [] = refl
row-right i (j ∷ js) = matched-right i (j ∷ js)

-- LEFT ROWS ALONE

kept-left : (p : ℕ → Bool) (f : ℕ → List ℕ) → ((i : ℕ) → f i ≡ cond (p i) (no_row ∷ []) []) → (is : List ℕ)
    → left_numbers (map left_only (filter p is)) ≡ flat_map (λ i. replicate (length (f i)) i) is
kept-left p f e [] = refl
kept-left p f e (i ∷ is) = at (p i) (kept-left p f e is) ∙ ap (λ (l : List ℕ). replicate (length l) i ++ flat_map (λ i. replicate (length (f i)) i) is) (sym (e i))
  where
    at : (b : Bool) → left_numbers (map left_only (filter p is)) ≡ flat_map (λ i. replicate (length (f i)) i) is
        → left_numbers (map left_only (cond b (i ∷ filter p is) (filter p is))) ≡ replicate (length (cond b (no_row ∷ []) [])) i ++ flat_map (λ i. replicate (length (f i)) i) is
    at true h = ap (λ (l : List ℕ). i ∷ l) h
    at false h = h

kept-right : (p : ℕ → Bool) (f : ℕ → List ℕ) → ((i : ℕ) → f i ≡ cond (p i) (no_row ∷ []) []) → (is : List ℕ)
    → right_numbers (map left_only (filter p is)) ≡ flat_map f is
kept-right p f e [] = refl
kept-right p f e (i ∷ is) = at (p i) (kept-right p f e is) ∙ ap (λ (l : List ℕ). l ++ flat_map f is) (sym (e i))
  where
    at : (b : Bool) → right_numbers (map left_only (filter p is)) ≡ flat_map f is
        → right_numbers (map left_only (cond b (i ∷ filter p is) (filter p is))) ≡ cond b (no_row ∷ []) [] ++ flat_map f is
    at true h = ap (λ (l : List ℕ). no_row ∷ l) h
    at false h = h

semi-row : (q : ℕ → Bool) (js : List ℕ) → beside Semi (filter q js) ≡ cond (list_any q js) (no_row ∷ []) []
semi-row q [] = refl
semi-row q (j ∷ js) = at (q j) (semi-row q js)
  where
    at : (b : Bool) → beside Semi (filter q js) ≡ cond (list_any q js) (no_row ∷ []) [] → beside Semi (cond b (j ∷ filter q js) (filter q js)) ≡ cond (b || list_any q js) (no_row ∷ []) []
    at true h = refl
    at false h = h

anti-row : (q : ℕ → Bool) (js : List ℕ) → beside Anti (filter q js) ≡ cond (not (list_any q js)) (no_row ∷ []) []
anti-row q [] = refl
anti-row q (j ∷ js) = at (q j) (anti-row q js)
  where
    at : (b : Bool) → beside Anti (filter q js) ≡ cond (not (list_any q js)) (no_row ∷ []) [] → beside Anti (cond b (j ∷ filter q js) (filter q js)) ≡ cond (not (b || list_any q js)) (no_row ∷ []) []
    at true h = refl
    at false h = h

-- RIGHT ROWS ALONE

lone-left : (ks : List ℕ) → left_numbers (map right_only ks) ≡ replicate (length ks) no_row
lone-left [] = refl
lone-left (k ∷ ks) = ap (λ (l : List ℕ). no_row ∷ l) (lone-left ks)

lone-right : (ks : List ℕ) → right_numbers (map right_only ks) ≡ ks
lone-right [] = refl
lone-right (k ∷ ks) = ap (λ (l : List ℕ). k ∷ l) (lone-right ks)

-- a row is among those that pass where it passes
found : (p : ℕ → Bool) (k n : ℕ) → k < n → list_any (nat_eq k) (filter p (row_numbers n)) ≡ p k
found p k n low =
    any-filter_same (nat_eq k) p (p k) (λ x e. ap p (sym (eqb-true k x e))) (row_numbers n)
    ∙ ap (λ b. p k && b) (sym (any_stop (nat_eq k) k n low (eq-eqb k k refl)))
    ∙ and_true (p k)
  where
    and_true : (b : Bool) → (b && true) ≡ b
    and_true true = refl
    and_true false = refl

-- a row is none of no rows
alone-is : (k : ℕ) (rows : List ℕ) → k < 4294967295 → list_any (nat_eq k) (or_alone rows) ≡ list_any (nat_eq k) rows
alone-is k [] low = other (nat_eq k no_row) refl
  where
    other : (b : Bool) → nat_eq k no_row ≡ b → (nat_eq k no_row || false) ≡ false
    other true e = let h : k ≡ 4294967295 = eqb-true k no_row e in absurd (omega (arith, h, low))
    other false e = ap (λ c. c || false) e
alone-is k (row ∷ rows) low = refl

any-map : {X Y : Type 0} (q : Y → Bool) (f : X → Y) (xs : List X) → list_any q (map f xs) ≡ list_any (λ x. q (f x)) xs
any-map q f [] = refl
any-map q f (x ∷ xs) = ap (λ b. q (f x) || b) (any-map q f xs)

-- BOTH SIDES

module _ (l r : ℕ) (m : ℕ → ℕ → Bool) where
  abbrev rows : ℕ → List ℕ
  rows i = filter (m i) (row_numbers r)

  inner-left : left_numbers (matched_pairs l r m) ≡ flat_map (λ i. replicate (length (rows i)) i) (row_numbers l)
  inner-left =
      map-flat_map (λ (p : JoinPair). _) (λ i. map (both i) (rows i)) (row_numbers l)
      ∙ flat_map_agree (λ i. left_numbers (map (both i) (rows i))) (λ i. replicate (length (rows i)) i) (λ i. matched-left i (rows i)) (row_numbers l)

  inner-right : right_numbers (matched_pairs l r m) ≡ flat_map rows (row_numbers l)
  inner-right =
      map-flat_map (λ (p : JoinPair). _) (λ i. map (both i) (rows i)) (row_numbers l)
      ∙ flat_map_agree (λ i. right_numbers (map (both i) (rows i))) rows (λ i. matched-right i (rows i)) (row_numbers l)

  each-left : left_numbers (each_left l r m) ≡ flat_map (λ i. replicate (length (or_alone (rows i))) i) (row_numbers l)
  each-left =
      map-flat_map (λ (p : JoinPair). _) (λ i. left_pairs i (rows i)) (row_numbers l)
      ∙ flat_map_agree (λ i. left_numbers (left_pairs i (rows i))) (λ i. replicate (length (or_alone (rows i))) i) (λ i. row-left i (rows i)) (row_numbers l)

  each-right : right_numbers (each_left l r m) ≡ flat_map (λ i. or_alone (rows i)) (row_numbers l)
  each-right =
      map-flat_map (λ (p : JoinPair). _) (λ i. left_pairs i (rows i)) (row_numbers l)
      ∙ flat_map_agree (λ i. right_numbers (left_pairs i (rows i))) (λ i. or_alone (rows i)) (λ i. row-right i (rows i)) (row_numbers l)

  module _ (few : r ≤ 4294967294) where
    -- the right rows without a match stand in none of the lists
    unmet-is : filter (λ j. not (list_any (λ i. m i j) (row_numbers l))) (row_numbers r) ≡ not_in (map (λ i. or_alone (rows i)) (row_numbers l)) r
    unmet-is = kept_same (λ j. not (list_any (λ i. m i j) (row_numbers l))) (λ k. not (list_any (λ list. list_any (nat_eq k) list) (map (λ i. or_alone (rows i)) (row_numbers l)))) r
        (λ k low. ap not (sym (any-map (λ list. list_any (nat_eq k) list) (λ i. or_alone (rows i)) (row_numbers l)
        ∙ ap (λ (q : ℕ → Bool). list_any q (row_numbers l)) (λ t i. (alone-is k (rows i) (omega (arith, low, few)) ∙ found (m i) k r low) t))))

    left-written : (how : JoinType) → is_right how ≡ false → left_numbers (left_way how l r m) ≡ probed_numbers how rows l r
    left-written Inner a = inner-left ∙ sym (append-nil (flat_map (λ i. replicate (length (rows i)) i) (row_numbers l)))
    left-written Left a = each-left ∙ sym (append-nil (flat_map (λ i. replicate (length (or_alone (rows i))) i) (row_numbers l)))
    left-written Right a = absurd (cc)
    left-written Full a =
        map-append (λ (p : JoinPair). _) (each_left l r m) (right_unmet l r m)
        ∙ (λ t. each-left t ++ (lone-left (filter (λ j. not (list_any (λ i. m i j) (row_numbers l))) (row_numbers r)) ∙ ap (λ (ks : List ℕ). replicate (length ks) no_row) unmet-is) t)
    left-written Semi a =
        kept-left (λ i. list_any (m i) (row_numbers r)) (λ i. beside Semi (rows i)) (λ i. semi-row (m i) (row_numbers r)) (row_numbers l)
        ∙ sym (append-nil (flat_map (λ i. replicate (length (beside Semi (rows i))) i) (row_numbers l)))
    left-written Anti a =
        kept-left (λ i. not (list_any (m i) (row_numbers r))) (λ i. beside Anti (rows i)) (λ i. anti-row (m i) (row_numbers r)) (row_numbers l)
        ∙ sym (append-nil (flat_map (λ i. replicate (length (beside Anti (rows i))) i) (row_numbers l)))

    right-written : (how : JoinType) → is_right how ≡ false → right_numbers (left_way how l r m) ≡ built_numbers how rows l r
    right-written Inner a = inner-right ∙ sym (append-nil (flat_map rows (row_numbers l)))
    right-written Left a = each-right ∙ sym (append-nil (flat_map (λ i. or_alone (rows i)) (row_numbers l)))
    right-written Right a = absurd (cc)
    right-written Full a =
        map-append (λ (p : JoinPair). _) (each_left l r m) (right_unmet l r m)
        ∙ (λ t. each-right t ++ (lone-right (filter (λ j. not (list_any (λ i. m i j) (row_numbers l))) (row_numbers r)) ∙ unmet-is) t)
    right-written Semi a =
        kept-right (λ i. list_any (m i) (row_numbers r)) (λ i. beside Semi (rows i)) (λ i. semi-row (m i) (row_numbers r)) (row_numbers l)
        ∙ sym (append-nil (flat_map (λ i. beside Semi (rows i)) (row_numbers l)))
    right-written Anti a =
        kept-right (λ i. not (list_any (m i) (row_numbers r))) (λ i. beside Anti (rows i)) (λ i. anti-row (m i) (row_numbers r)) (row_numbers l)
        ∙ sym (append-nil (flat_map (λ i. beside Anti (rows i)) (row_numbers l)))

    left-ordered : (how : JoinType) → is_right how ≡ false → IsOrdered how (row_order how) (left_way how l r m) (listing_of how l r m)
    left-ordered Inner a = in_order-ordered Inner order.Left l r m
    left-ordered Left a = in_order-ordered Left order.Left l r m
    left-ordered Right a = absurd (cc)
    left-ordered Full a = in_order-ordered Full order.Left l r m
    left-ordered Semi a = in_order-ordered Semi order.Left l r m
    left-ordered Anti a = in_order-ordered Anti order.Left l r m

right-is : (how : JoinType) → is_right how ≡ true → how ≡ Right
right-is Inner e = absurd (cc)
right-is Left e = absurd (cc)
right-is Right e = refl
right-is Full e = absurd (cc)
right-is Semi e = absurd (cc)
right-is Anti e = absurd (cc)

-- what is written of the left rows are the pairs by left rows
pub left-joined : (l r : ℕ) (m : ℕ → ℕ → Bool) → r ≤ 4294967294 → (how : JoinType) → is_right how ≡ false → (lb rb la ra : List ℕ) (count : ℕ)
    → AreWritten how (λ i. filter (m i) (row_numbers r)) l r rb lb ra la count → ArePairsHandedOver how (listing_of how l r m) lb rb la ra count
left-joined l r m few how other lb rb la ra count w =
    let lefts = left-written l r m few how other in
    let rights = right-written l r m few how other in
    record {
      pairs = left_way how l r m;
      ordered = left-ordered l r m few how other;
      many = w.many ∙ sym (ap (λ (l : List ℕ). length l) rights) ∙ length-map (left_way how l r m) _;
      lefts = subst (λ (ns : List ℕ). IsHandedOver ns lb la) (sym lefts) w.probed;
      rights = subst (λ (ns : List ℕ). IsHandedOver ns rb ra) (sym rights) w.built;
    }

-- what is written of the right rows, as a Left join of the exchanged sides, are the pairs of a Right join by right rows
pub right-joined : (l r : ℕ) (m t : ℕ → ℕ → Bool) → ((j i : ℕ) → t j i ≡ m i j) → l ≤ 4294967294 → (how : JoinType) → is_right how ≡ true → (lb rb la ra : List ℕ) (count : ℕ)
    → AreWritten Left (λ j. filter (t j) (row_numbers l)) r l lb rb la ra count → ArePairsHandedOver how (listing_of how l r m) lb rb la ra count
right-joined l r m t turns few how is lb rb la ra count w =
    let back : ℕ → ℕ → Bool = λ j i. m i j in
    let same : t ≡ back = λ k j i. turns j i k in
    let v : AreWritten Left (λ j. filter (back j) (row_numbers l)) r l lb rb la ra count
    = subst (λ (f : ℕ → ℕ → Bool). AreWritten Left (λ j. filter (f j) (row_numbers l)) r l lb rb la ra count) same w in
    let each = each_left r l back in
    let lefts : left_numbers (map turn each) ≡ built_numbers Left (λ j. filter (back j) (row_numbers l)) r l
    = map-map (λ (p : JoinPair). _) turn each ∙ right-written r l back few Left refl in
    let rights : right_numbers (map turn each) ≡ probed_numbers Left (λ j. filter (back j) (row_numbers l)) r l
    = map-map (λ (p : JoinPair). _) turn each ∙ left-written r l back few Left refl in
    subst (λ (how : JoinType). ArePairsHandedOver how (listing_of how l r m) lb rb la ra count) (sym (right-is how is))
    (record {
      pairs = right_way Right l r m;
      ordered = in_order-ordered Right order.Right l r m;
      many = v.many ∙ sym (ap (λ (l : List ℕ). length l) lefts) ∙ length-map (right_way Right l r m) _;
      lefts = subst (λ (ns : List ℕ). IsHandedOver ns lb la) (sym lefts) v.built;
      rights = subst (λ (ns : List ℕ). IsHandedOver ns rb ra) (sym rights) v.probed;
    })

-- THE LISTS OF ALL ROWS

module _ (f : ℕ → List ℕ) (n : ℕ) (lists : List (Bor (List ℕ))) (is : seen lists ≡ map f (row_numbers n)) where
  pub lists-many : length lists ≡ n
  lists-many = sym (length-map lists (λ r. r.now)) ∙ ap (λ (l : List (List ℕ)). length l) is ∙ length-map (row_numbers n) f ∙ length-range_with_len 0 n

  pub lists-each : ((p : ℕ) → length (f p) ≤ 4294967294) → (k : ℕ) (d : Bor (List ℕ)) → k < length lists → length (get_or lists k d).now ≤ 4294967294
  lists-each few k d low =
      let at : (get_or lists k d).now ≡ f k
      = sym (get_or-map_any (λ (r : Bor (List ℕ)). r.now) lists k d) ∙ ap (λ (l : List (List ℕ)). get_or l k d.now) is
      ∙ get_or-map-range_with_len f 0 n k k d.now (omega (arith, low, lists-many)) (zero-add k) in
      omega (arith, ap (λ (l : List ℕ). length l) at, few k)

kept-few : (p : ℕ → Bool) (n : ℕ) → length (filter p (row_numbers n)) ≤ n
kept-few p n = let parts = length-filter_both p (λ j. not (p j)) (λ j. refl) (row_numbers n) in omega (arith, parts, length-range_with_len 0 n)

pub beside-few : (how : JoinType) (rows : List ℕ) → length rows ≤ 4294967294 → length (beside how rows) ≤ 4294967294
beside-few Inner rows few = few
beside-few Left [] few = omega arith
beside-few Left (row ∷ rows) few = few
beside-few Right [] few = omega arith
beside-few Right (row ∷ rows) few = few
beside-few Full [] few = omega arith
beside-few Full (row ∷ rows) few = few
beside-few Semi [] few = omega arith
beside-few Semi (row ∷ rows) few = omega arith
beside-few Anti [] few = omega arith
beside-few Anti (row ∷ rows) few = omega arith

pub kept-fit : (p : ℕ → Bool) (n : ℕ) → n ≤ 4294967294 → length (filter p (row_numbers n)) ≤ 4294967294
kept-fit p n few = let k = kept-few p n in omega (arith, k, few)

pub unlisted-few : (how : JoinType) (len : ℕ) (lists : List (List ℕ)) → len ≤ 4294967294 → length (unlisted how len lists) ≤ 4294967294
unlisted-few Inner len lists few = omega arith
unlisted-few Left len lists few = omega arith
unlisted-few Right len lists few = omega arith
unlisted-few Full len lists few = kept-fit _ len few
unlisted-few Semi len lists few = omega arith
unlisted-few Anti len lists few = omega arith

-- what stands in the rooms is what the probed rows have
pub rows-written : (how : JoinType) (rows : ℕ → List ℕ) (n b : ℕ) (lists : List (Bor (List ℕ))) (behind : List ℕ) (bb pb ba pa : List ℕ) (count : ℕ)
    → seen lists ≡ map (λ p. beside how (rows p)) (row_numbers n) → behind ≡ unlisted how b (seen lists) → count ≡ length (concatenated lists) + length behind
    → IsHandedOver (concatenated lists ++ behind) bb ba → IsHandedOver (repeated 0 lists ++ replicate (length behind) no_row) pb pa → AreWritten how rows n b bb pb ba pa count
rows-written how rows n b lists behind bb pb ba pa count is rest many built probed =
    let f : ℕ → List ℕ = λ p. beside how (rows p) in
    let last : behind ≡ unlisted how b (map f (row_numbers n)) = rest ∙ ap (unlisted how b) is in
    let lists_are : concatenated lists ++ behind ≡ built_numbers how rows n b = λ t. concatenated-seen f (row_numbers n) lists is t ++ last t in
    let numbers_are : repeated 0 lists ++ replicate (length behind) no_row ≡ probed_numbers how rows n b
    = λ t. (repeated-seen 0 lists ∙ ap (counted 0) is ∙ counted-rows f 0 n) t ++ replicate (length (last t)) no_row in
    record {
      many = omega (arith, many, length-append (concatenated lists) behind, ap (λ (l : List ℕ). length l) lists_are);
      built = subst (λ (ns : List ℕ). IsHandedOver ns bb ba) lists_are built;
      probed = subst (λ (ns : List ℕ). IsHandedOver ns pb pa) numbers_are probed;
    }

-- the built rows without a probed one stand in none of the lists
bare-kept : (q : ℕ → Bool) (js : List ℕ) → is_bare (filter q js) ≡ not (list_any q js)
bare-kept q [] = refl
bare-kept q (j ∷ js) = at (q j) (bare-kept q js)
  where
    at : (b : Bool) → is_bare (filter q js) ≡ not (list_any q js) → is_bare (cond b (j ∷ filter q js) (filter q js)) ≡ not (b || list_any q js)
    at true h = refl
    at false h = h

pub unmatched-unlisted : (how : JoinType) (n b : ℕ) (m t : ℕ → ℕ → Bool) → ((k i : ℕ) → t k i ≡ m i k) → b ≤ 4294967294
    → unmatched how (λ k. filter (t k) (row_numbers n)) b ≡ unlisted how b (map (λ p. beside how (filter (m p) (row_numbers b))) (row_numbers n))
unmatched-unlisted Inner n b m t turns few = refl
unmatched-unlisted Left n b m t turns few = refl
unmatched-unlisted Right n b m t turns few = refl
unmatched-unlisted Full n b m t turns few =
    ap (λ (p : ℕ → Bool). filter p (row_numbers b)) (λ x k. bare-kept (t k) (row_numbers n) x)
    ∙ ap (λ (f : ℕ → ℕ → Bool). filter (λ k. not (list_any (f k) (row_numbers n))) (row_numbers b)) (λ x k i. turns k i x)
    ∙ unmet-is n b m few
unmatched-unlisted Semi n b m t turns few = refl
unmatched-unlisted Anti n b m t turns few = refl
