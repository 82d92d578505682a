-- Pairs of places in sorted rows stand for the pairs of the rows.
use Rattle.std.proofs.Common.{◌≡◌, ℕ, zero, suc, ◌+◌, ◌<◌, ◌≤◌, Bool, true, false, cond, not, ◌&&◌, List, [], ◌∷◌, length, get_or, map, refl, sym, ap, ap₂, ◌∙◌, subst, arith, ℤ, pos}
use Rattle.std.specs.Prelude.{All, filter, IsPermutation, IsSorted}
use Rattle.std.specs.Ordering.{int_cmp, int_eq, is_lt}
use Rattle.std.specs.declared.cmp.Ordering.{Ordering}
use Rattle.std.proofs.lemmas.Bool.Decides.{Decides-int_eq, nat_tests}
use Rattle.std.proofs.lemmas.Cmp.{int_eq_equiv}
use Rattle.std.proofs.lemmas.Int.{ints}
use Rattle.std.proofs.lemmas.List.{ext_get_or, get_or-map, length-map, map-id}
use Rattle.std.proofs.lemmas.List.Elements.{All-head, All-map, All-weaker, filter_passes}
use Rattle.std.proofs.lemmas.List.FromFn.{get_or-map-range_with_len, length-map-range_with_len}
use Rattle.std.proofs.lemmas.List.Sorted.{All-permutation, IsPermutation-map, IsPermutation-refl, IsPermutation-sym, IsPermutation-trans, length_permutation}
use Rattle.std.specs.Fn.{Called, ComputesKey}
use Rattle.std.specs.List.Sorted.{IsSortedByKeyClosure, IsStableByKeyClosure}
use Rattle.std.proofs.lemmas.Fn.{always_returns_same}
use denote.Ref.{Bor}
use denote.Param.Members.{Mut}
use Rattle.tb_value.specs.declared.error.Side.TheVariants.{Left, Right}
use Rattle.tb_value.specs.declared.index.JoinPair.{JoinPair}
use Rattle.tb_value.specs.declared.limits.TheConstants.{MAX_ROWS}
use Rattle.tb_value.specs.Promise.Pairs.{both, left_first, matched_pairs, row_numbers}
use Rattle.tb_value.specs.Pairs.{turn}
use Rattle.tb_value.proofs.Ascending.{matched-sorted}
use Rattle.tb_value.proofs.Loops.{flat_map_agree, map-flat_map, map-map, turned_matches}
use Rattle.tb_value.proofs.Orders.{left_first_same, left_first_total}
use Rattle.tb_value.proofs.Probes.{each_left-permutation, each_left-sorted}
use Rattle.tb_value.proofs.Unique.{sorted_once}
use Rattle.tb_frame.specs.Answer.{AreLeftRows, AreRightRows, IsPairOf}
use Rattle.tb_chunk.specs.Rows.{IsRowOf}
use Rattle.tb_value.proofs.RowNumbers.{rows_below}
use Rattle.tb_frame.proofs.Ranges.{listing_rows}
use Rattle.tb_merge.specs.Keys.{key_at, keys_match}
use Rattle.tb_merge.specs.RowPairs.{pairs_of, row_pairs, rows_of}
use Rattle.tb_merge.proofs.Matches.{inner_is, left_is}
use Rattle.tb_sorted.specs.Keys.{kind_of_merge, number_listing, number_sizes}
use Rattle.tb_sorted.specs.SortedRows.{AreSortedRows, has_key, keys_of, numbered_keys, placed, row_at, with_rows}

-- STORED KEYS AS NUMBERS

module _ {N : Type 0} (number : N → ℤ) (rows : List (N × ℕ)) (i : ℕ) (d : N × ℕ) (low : i < length rows) where
  pub numbered_at : (e : ℤ × ℕ) → get_or (numbered_keys number rows) i e ≡ (number (get_or rows i d).0, (get_or rows i d).1)
  numbered_at e = get_or-map (λ (p : N × ℕ). (number p.0, p.1)) rows i d e low

  pub numbered_key : (e : ℤ) → get_or (keys_of (numbered_keys number rows)) i e ≡ number (get_or rows i d).0
  numbered_key e =
      let long : length (numbered_keys number rows) ≡ length rows = length-map rows (λ (p : N × ℕ). (number p.0, p.1)) in
      get_or-map (λ (p : ℤ × ℕ). p.0) (numbered_keys number rows) i (pos 0, 0) e (omega (arith, long, low)) ∙ ap (λ (p : ℤ × ℕ). p.0) (numbered_at (pos 0, 0))

-- THE ORDER OF A SORT

-- images ascend where their sources ascend by them
pub sorted_images : {X Y : Type 0} (f : X → Y) (order : Y → Y → Ordering) (xs : List X) → IsSorted (λ x y. order (f x) (f y)) xs → IsSorted order (map f xs)
sorted_images f order [] s = λ k e from high. absurd (omega arith)
sorted_images f order (x ∷ xs) s = λ k e from high.
    let long : length (map f (x ∷ xs)) ≡ length (x ∷ xs) = length-map (x ∷ xs) f in
    let next : get_or (map f (x ∷ xs)) (k + 1) e ≡ f (get_or (x ∷ xs) (k + 1) x) = get_or-map f (x ∷ xs) (k + 1) x e (omega (arith, long)) in
    let this : get_or (map f (x ∷ xs)) k e ≡ f (get_or (x ∷ xs) k x) = get_or-map f (x ∷ xs) k x e (omega (arith, long)) in
    ap is_lt (ap₂ order next this) ∙ s k x from (omega (arith, long))

-- numbers tie where they are equal
tie_is : (x y : ℤ) → (not (is_lt (int_cmp x y)) && not (is_lt (int_cmp y x))) ≡ int_eq x y
tie_is x y = grind (arith, ints, nat_tests)

kept_images : {X Y Z : Type 0} (at : X → Y) (p : Y → Bool) (f : Y → Z) (xs : List X) → map (λ x. f (at x)) (filter (λ x. p (at x)) xs) ≡ map f (filter p (map at xs))
kept_images at p f [] = refl
kept_images at p f (x ∷ xs) = one (p (at x)) (kept_images at p f xs)
  where
    one : (b : Bool) → map (λ x. f (at x)) (filter (λ x. p (at x)) xs) ≡ map f (filter p (map at xs))
        → map (λ x. f (at x)) (cond b (x ∷ filter (λ x. p (at x)) xs) (filter (λ x. p (at x)) xs)) ≡ map f (cond b (at x ∷ filter p (map at xs)) (filter p (map at xs)))
    one true e = λ t. f (at x) ∷ e t
    one false e = e

-- a sort by stored keys, which compare as the numbers that they are
module _ {N : Type 0} (cmp : N → N → Ordering) (number : N → ℤ) (ordered : (x y : N) → cmp x y ≡ int_cmp (number x) (number y)) where
  abbrev ties : N × ℕ → N × ℕ → Bool
  ties x p = not (is_lt (cmp x.0 p.0)) && not (is_lt (cmp p.0 x.0))

  abbrev has_number : ℤ → N × ℕ → Bool
  has_number v p = int_eq v (number p.0)

  ties_are : (x : N × ℕ) (v : ℤ) → v ≡ number x.0 → ties x ≡ has_number v
  ties_are x v e = λ t p.
      ◌∙◌ {A = Bool} (λ s. not (is_lt (ordered x.0 p.0 s)) && not (is_lt (ordered p.0 x.0 s)))
      (tie_is (number x.0) (number p.0) ∙ ap (λ (u : ℤ). int_eq u (number p.0)) (sym e)) t

  -- what a stable sort by key keeps
  kept_by_number : (xs ys : List (N × ℕ)) → ((x : N × ℕ) → filter (ties x) ys ≡ filter (ties x) xs) → (v : ℤ) → filter (has_number v) ys ≡ filter (has_number v) xs
  kept_by_number xs ys stable v = by (filter (has_number v) xs) refl (filter (has_number v) ys) refl
    where
      at : (x : N × ℕ) → has_number v x ≡ true → filter (has_number v) ys ≡ filter (has_number v) xs
      at x h =
          let same : ties x ≡ has_number v = ties_are x v ((Decides-int_eq v (number x.0)).0 h) in
          sym (ap (λ (f : N × ℕ → Bool). filter f ys) same) ∙ stable x ∙ ap (λ (f : N × ℕ → Bool). filter f xs) same

      passes : (zs : List (N × ℕ)) (z : N × ℕ) (rest : List (N × ℕ)) → z ∷ rest ≡ filter (has_number v) zs → has_number v z ≡ true
      passes zs z rest e = All-head (λ (p : N × ℕ). has_number v p ≡ true) z rest (subst (λ (l : List (N × ℕ)). All (λ p. has_number v p ≡ true) l) (sym e) (filter_passes (has_number v) zs))

      by : (us : List (N × ℕ)) → us ≡ filter (has_number v) xs → (vs : List (N × ℕ)) → vs ≡ filter (has_number v) ys → filter (has_number v) ys ≡ filter (has_number v) xs
      by (x ∷ us) e vs f = at x (passes xs x us e)
      by [] e (y ∷ vs) f = at y (passes ys y vs f)
      by [] e [] f = sym f ∙ e

  numbered_kept : (v : ℤ) (xs : List (N × ℕ)) → map (λ (p : N × ℕ). (number p.0, p.1)) (filter (has_number v) xs) ≡ filter (has_key v) (numbered_keys number xs)
  numbered_kept v xs = kept_images (λ (p : N × ℕ). (number p.0, p.1)) (has_key v) (λ q. q) xs ∙ map-id (filter (has_key v) (numbered_keys number xs))

  -- what a stable sort by key gives, where each call of the closure gives the key
  pub sorted_by_key : {F : Type 0} (g : Mut F (Bor (N × ℕ) × Unit {0}) N) (f : F) (keys : List ℤ) (xs ys : List (N × ℕ)) → numbered_keys number xs ≡ with_rows keys → IsPermutation xs ys
      → IsSortedByKeyClosure g cmp f ys → IsStableByKeyClosure g cmp f xs ys
      → ((a : Bor (N × ℕ) × Unit {0}) (r : N) (f' : F) → Called g f a r f' → (r ≡ a.0.now.0) × (f' ≡ f)) → AreSortedRows keys (numbered_keys number ys)
  sorted_by_key g f keys xs ys is moved sorted stable says =
      let key : N × ℕ → N = λ p. p.0 in
      let image : N × ℕ → ℤ × ℕ = λ p. (number p.0, p.1) in
      let computes : ComputesKey g key f = always_returns_same g (λ a r. r ≡ a.0.now.0) f says in
      let by_numbers : (λ (x y : N × ℕ). cmp x.0 y.0) ≡ (λ (x y : N × ℕ). int_cmp (number x.0) (number y.0)) = λ t x y. ordered x.0 y.0 t in
      record {
        ascends =
            subst (IsSorted int_cmp) (sym (map-map (λ (p : ℤ × ℕ). p.0) image ys))
            (sorted_images (λ (p : N × ℕ). number p.0) int_cmp ys (subst (λ (order : N × ℕ → N × ℕ → Ordering). IsSorted order ys) by_numbers (sorted key computes)));
        permutation = subst (λ (l : List (ℤ × ℕ)). IsPermutation l (numbered_keys number ys)) is (IsPermutation-map image xs ys moved);
        stable = λ v.
            sym (numbered_kept v ys) ∙ ap (map image) (kept_by_number xs ys (stable key computes) v) ∙ numbered_kept v xs ∙ ap (filter (has_key v)) is;
      }

-- the same of the rows as they are lent
pub lent_rows : {N : Type 0} (number : N → ℤ) (keys : List ℤ) (rows lent : List (N × ℕ)) → lent ≡ rows → AreSortedRows keys (numbered_keys number rows) → AreSortedRows keys (numbered_keys number lent)
lent_rows {N} number keys rows lent is h = subst (λ (l : List (N × ℕ)). AreSortedRows keys (numbered_keys number l)) (sym is) h

-- THE PAIRS IN THE ORDER OF THE LEFT ROWS

abbrev pub way : Bool → List ℤ → List ℤ → List JoinPair
way keep left right = pairs_of left right keep (row_numbers (length left))

pub way_permutation : (keep : Bool) (left right : List ℤ) → IsPermutation (number_listing keep left right) (way keep left right)
way_permutation true left right = subst (λ (l : List JoinPair). IsPermutation (number_listing true left right) l) (sym (left_is left right)) (each_left-permutation (length left) (length right) (keys_match left right))
way_permutation false left right = subst (λ (l : List JoinPair). IsPermutation (number_listing false left right) l) (sym (inner_is left right)) (IsPermutation-refl (number_listing false left right))

pub way_sorted : (keep : Bool) (left right : List ℤ) → IsSorted left_first (way keep left right)
way_sorted true left right = subst (IsSorted left_first) (sym (left_is left right)) (each_left-sorted (length left) (length right) (keys_match left right))
way_sorted false left right = subst (IsSorted left_first) (sym (inner_is left right)) (matched-sorted (length left) (length right) (keys_match left right))

-- the pairs of the listing, so sorted, are these
only_way : (keep : Bool) (left right : List ℤ) (ps : List JoinPair) → IsPermutation (number_listing keep left right) ps → IsSorted left_first ps → ps ≡ way keep left right
only_way keep left right ps h s = sorted_once left_first left_first_total left_first_same ps (way keep left right) (number_listing keep left right) h (way_permutation keep left right) s (way_sorted keep left right)

-- IMAGES

mapped_at : {X Y : Type 0} (f : X → Y) (xs : List X) (i : ℕ) (d : X) → get_or (map f xs) i (f d) ≡ f (get_or xs i d)
mapped_at f [] i d = refl
mapped_at f (x ∷ xs) zero d = refl
mapped_at f (x ∷ xs) (suc i) d = mapped_at f xs i d

listed_rows : {X : Type 0} (xs : List X) (d : X) → map (λ i. get_or xs i d) (row_numbers (length xs)) ≡ xs
listed_rows xs d =
    let long : length (map (λ i. get_or xs i d) (row_numbers (length xs))) ≡ length xs = length-map-range_with_len (λ i. get_or xs i d) 0 (length xs) in
    ext_get_or d (map (λ i. get_or xs i d) (row_numbers (length xs))) xs long
    (λ i low. get_or-map-range_with_len (λ k. get_or xs k d) 0 (length xs) i i d (omega (arith, long, low)) (omega arith))

-- PLACES

module _ (keys : List ℤ) (rows : List (ℤ × ℕ)) (sorted : AreSortedRows keys rows) where
  pub as_many_rows : length rows ≡ length keys
  as_many_rows = length_permutation (with_rows keys) rows sorted.permutation ∙ length-map-range_with_len (λ i. (key_at keys i, i)) 0 (length keys)

  pub as_many_keys : length (keys_of rows) ≡ length keys
  as_many_keys = length-map rows (λ (p : ℤ × ℕ). p.0) ∙ as_many_rows

  -- the rows are few enough for row numbers
  pub rows_few : length keys ≤ MAX_ROWS → All (λ (p : ℤ × ℕ). p.1 < MAX_ROWS) rows
  rows_few few =
      All-permutation (λ (p : ℤ × ℕ). p.1 < MAX_ROWS) (with_rows keys) rows sorted.permutation
      (All-map (λ (p : ℤ × ℕ). p.1 < MAX_ROWS) (λ i. (key_at keys i, i)) (row_numbers (length keys))
      (All-weaker (λ i. i < length keys) (λ i. i < MAX_ROWS) (λ i low. omega (arith, low, few)) (row_numbers (length keys)) (rows_below (length keys))))

  -- the rows at the places of a key are the rows of that key
  rows_at_places : (left : List ℤ) (i : ℕ) → map (row_at rows) (rows_of left (keys_of rows) i) ≡ rows_of left keys i
  rows_at_places left i =
      let v : ℤ = key_at left i in
      let d : ℤ × ℕ = (pos 0, 0) in
      let at : ℕ → ℤ × ℕ = λ j. get_or rows j d in
      let second : ℤ × ℕ → ℕ = λ p. p.1 in
      let own : ℕ → ℤ × ℕ = λ k. (key_at keys k, k) in
      ◌∙◌ {A = List ℕ} (λ t. map (row_at rows) (filter (λ j. int_eq v (mapped_at (λ (p : ℤ × ℕ). p.0) rows j d t)) (row_numbers (length-map rows (λ (p : ℤ × ℕ). p.0) t))))
      (kept_images at (has_key v) second (row_numbers (length rows))
      ∙ ap (λ (l : List (ℤ × ℕ)). map second (filter (has_key v) l)) (listed_rows rows d)
      ∙ ap (map second) (sorted.stable v)
      ∙ sym (kept_images own (has_key v) second (row_numbers (length keys)))
      ∙ map-id (rows_of left keys i))

  placed_row : (keep : Bool) (i : ℕ) (js : List ℕ) → map (placed Right rows) (row_pairs keep i js) ≡ row_pairs keep i (map (row_at rows) js)
  placed_row true i [] = refl
  placed_row false i [] = refl
  placed_row keep i (j ∷ js) = map-map (placed Right rows) (both i) (j ∷ js) ∙ sym (map-map (both i) (row_at rows) (j ∷ js))

  placed_way : (keep : Bool) (left : List ℤ) → map (placed Right rows) (way keep left (keys_of rows)) ≡ way keep left keys
  placed_way keep left =
      map-flat_map (placed Right rows) (λ i. row_pairs keep i (rows_of left (keys_of rows) i)) (row_numbers (length left))
      ∙ flat_map_agree (λ i. map (placed Right rows) (row_pairs keep i (rows_of left (keys_of rows) i))) (λ i. row_pairs keep i (rows_of left keys i))
      (λ i. placed_row keep i (rows_of left (keys_of rows) i) ∙ ap (row_pairs keep i) (rows_at_places left i)) (row_numbers (length left))

  -- THE RIGHT SIDE SORTED

  pub right_way : (keep : Bool) (left : List ℤ) (ps : List JoinPair) → IsPermutation (number_listing keep left (keys_of rows)) ps → IsSorted left_first ps → map (placed Right rows) ps ≡ way keep left keys
  right_way keep left ps h s = ap (map (placed Right rows)) (only_way keep left (keys_of rows) ps h s) ∙ placed_way keep left

  pub right_many : (keep : Bool) (left : List ℤ) → length (number_listing keep left (keys_of rows)) ≡ length (number_listing keep left keys)
  right_many keep left =
      sym (length_permutation (number_listing keep left (keys_of rows)) (way keep left (keys_of rows)) (way_permutation keep left (keys_of rows)))
      ∙ sym (length-map (way keep left (keys_of rows)) (placed Right rows))
      ∙ ap (λ (l : List JoinPair). length l) (placed_way keep left)
      ∙ length_permutation (number_listing keep left keys) (way keep left keys) (way_permutation keep left keys)

  pub right_sizes : (left : List ℤ) → number_sizes left (keys_of rows) ≡ number_sizes left keys
  right_sizes left = λ t. record { left_len = length left; right_len = as_many_keys t; pairs = right_many false left t }

  pub right_places : (keep : Bool) (left : List ℤ) (ps : List JoinPair) → IsPermutation (number_listing keep left (keys_of rows)) ps → AreRightRows (length rows) ps
  right_places keep left ps h =
      let n : ℕ = length (keys_of rows) in
      subst (λ (k : ℕ). AreRightRows k ps) (length-map rows (λ (p : ℤ × ℕ). p.0))
      (All-weaker (IsPairOf (length left) n) (λ (p : JoinPair). IsRowOf n p.right) (λ p q. q.1) ps
      (All-permutation (IsPairOf (length left) n) (number_listing keep left (keys_of rows)) ps h (listing_rows (kind_of_merge keep) (length left) n (keys_match left (keys_of rows)))))

  -- THE LEFT SIDE SORTED

  module _ (right : List ℤ) where
    -- matches the other way round
    exchanged : (ks : List ℤ) → (λ j i. keys_match ks right i j) ≡ keys_match right ks
    exchanged ks = λ t j i. int_eq_equiv.symm (key_at ks i) (key_at right j) t

    turned_inner : (ks : List ℤ) → IsPermutation (map turn (way false right ks)) (number_listing false ks right)
    turned_inner ks =
        subst (λ (l : List JoinPair). IsPermutation (map turn l) (number_listing false ks right))
        (ap (λ (m : ℕ → ℕ → Bool). matched_pairs (length right) (length ks) m) (exchanged ks) ∙ sym (inner_is right ks))
        (turned_matches (length ks) (length right) (keys_match ks right))

    turned_placed : (ps : List JoinPair) → map turn (map (placed Right rows) ps) ≡ map (placed Left rows) (map turn ps)
    turned_placed ps = map-map turn (placed Right rows) ps ∙ sym (map-map (placed Left rows) turn ps)

    pub left_way : (ps : List JoinPair) → IsPermutation (number_listing false (keys_of rows) right) ps → IsPermutation (number_listing false keys right) (map (placed Left rows) ps)
    left_way ps h =
        let there : List JoinPair = way false right (keys_of rows) in
        let here : IsPermutation (number_listing false keys right) (map turn (way false right keys)) = IsPermutation-sym (map turn (way false right keys)) (number_listing false keys right) (turned_inner keys) in
        let same : map turn (way false right keys) ≡ map (placed Left rows) (map turn there) = ap (map turn) (sym (placed_way false right)) ∙ turned_placed there in
        let moved : IsPermutation (map (placed Left rows) (map turn there)) (map (placed Left rows) ps) =
        IsPermutation-map (placed Left rows) (map turn there) ps (IsPermutation-trans (map turn there) (number_listing false (keys_of rows) right) ps (turned_inner (keys_of rows)) h) in
        IsPermutation-trans (number_listing false keys right) (map (placed Left rows) (map turn there)) (map (placed Left rows) ps)
        (subst (λ (l : List JoinPair). IsPermutation (number_listing false keys right) l) same here) moved

    pub left_many : length (number_listing false (keys_of rows) right) ≡ length (number_listing false keys right)
    left_many =
        let list : List JoinPair = number_listing false (keys_of rows) right in
        sym (length-map list (placed Left rows))
        ∙ length_permutation (number_listing false keys right) (map (placed Left rows) list) (left_way list (IsPermutation-refl list))

    pub left_sizes : number_sizes (keys_of rows) right ≡ number_sizes keys right
    left_sizes = λ t. record { left_len = as_many_keys t; right_len = length right; pairs = left_many t }

    pub left_places : (ps : List JoinPair) → IsPermutation (number_listing false (keys_of rows) right) ps → AreLeftRows (length rows) ps
    left_places ps h =
        let n : ℕ = length (keys_of rows) in
        subst (λ (k : ℕ). AreLeftRows k ps) (length-map rows (λ (p : ℤ × ℕ). p.0))
        (All-weaker (IsPairOf n (length right)) (λ (p : JoinPair). IsRowOf n p.left) (λ p q. q.0) ps
        (All-permutation (IsPairOf n (length right)) (number_listing false (keys_of rows) right) ps h (listing_rows (kind_of_merge false) n (length right) (keys_match (keys_of rows) right))))
