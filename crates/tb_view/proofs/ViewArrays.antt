-- Facts on the views and buffers of several chunks.
use Rattle.std.proofs.Common.{arith, zero, suc, inl, inr, ◌≡◌, ◌<◌, ◌≤◌, ◌+◌, ℕ, List, [], ◌∷◌, ◌++◌, Option, Some, None, length, map, take, drop, get_or, refl, ap, sym, ◌∙◌, append_assoc, append-nil, length-append}
use Rattle.std.proofs.lemmas.Bool.{cases_lt}
use Rattle.std.specs.List.{flat_map, sum}
use Rattle.std.proofs.lemmas.List.{length-map, map-append, take_all, take-map, drop-map, take_more, get_or-drop, get_or-append-add, get_or-map, get_or_append_left, get_or_at}
use Rattle.std.proofs.lemmas.List.Sums.{sum_by-cons}
use Rattle.tb_view.specs.Moved.{moved_view}
use Rattle.tb_view.specs.Promise.ViewArrays.{ViewArray}
use Rattle.tb_view.specs.ViewArrays.{AreViewed, view_arrays_of, all_buffers, moved_views, base_of, view_array_at, joined_view_array, window_of}
use Rattle.tb_view.specs.declared.view.View.{View}

-- over the first buffers a view stays
pub moved-0 : (o : Option View) → moved_view 0 o ≡ o
moved-0 None = refl
moved-0 (Some v) = refl

map-moved-0 : (vs : List (Option View)) → map (moved_view 0) vs ≡ vs
map-moved-0 [] = refl
map-moved-0 (v ∷ vs) =
    let h = moved-0 v in
    let t = map-moved-0 vs in
    λ i. h i ∷ t i

-- of one run all is the run
pub whole-one : (r : ViewArray) → joined_view_array (r ∷ []) ≡ r
whole-one r =
    let vs = append-nil (map (moved_view 0) r.views) ∙ map-moved-0 r.views in
    let bs = append-nil r.buffers in
    λ i. record { views = vs i; buffers = bs i }

-- one more chunk: its buffers come behind those before
pub buffers_more : {C : Type 0} (views : C → List (Option View)) (buffers : C → List (List ℕ)) (cs : List C) (k : ℕ) (c : C) → k < length cs → c ≡ get_or cs k c → all_buffers (take (k + 1) (view_arrays_of views buffers cs)) ≡ all_buffers (take k (view_arrays_of views buffers cs)) ++ buffers c
buffers_more views buffers [] k c low e = absurd (omega arith)
buffers_more views buffers (x ∷ xs) zero c low e = append-nil (buffers x) ∙ ap buffers (sym e)
buffers_more views buffers (x ∷ xs) (suc k) c low e =
    let n : suc k + 1 ≡ suc (k + 1) = omega arith in
    ap (λ m. all_buffers (take m (view_arrays_of views buffers (x ∷ xs)))) n
    ∙ ap (λ bs. buffers x ++ bs) (buffers_more views buffers xs k c (omega arith) e)
    ∙ sym (append_assoc (buffers x) (all_buffers (take k (view_arrays_of views buffers xs))) (buffers c))

pub base_more : {C : Type 0} (views : C → List (Option View)) (buffers : C → List (List ℕ)) (cs : List C) (k : ℕ) (c : C) → k < length cs → c ≡ get_or cs k c → base_of (view_arrays_of views buffers cs) (k + 1) ≡ base_of (view_arrays_of views buffers cs) k + length (buffers c)
base_more views buffers cs k c low e = ap length (buffers_more views buffers cs k c low e) ∙ length-append (all_buffers (take k (view_arrays_of views buffers cs))) (buffers c)

-- the views that are left are those of the next chunk and then the others
pub views_left : {C : Type 0} (views : C → List (Option View)) (buffers : C → List (List ℕ)) (cs : List C) (k base : ℕ) (c : C) → k < length cs → c ≡ get_or cs k c → moved_views base (drop k (view_arrays_of views buffers cs)) ≡ map (moved_view base) (views c) ++ moved_views (base + length (buffers c)) (drop (k + 1) (view_arrays_of views buffers cs))
views_left views buffers [] k base c low e = absurd (omega arith)
views_left views buffers (x ∷ xs) zero base c low e = ap (λ y. map (moved_view base) (views y) ++ moved_views (base + length (buffers y)) (view_arrays_of views buffers xs)) (sym e)
views_left views buffers (x ∷ xs) (suc k) base c low e =
    let n : suc (k + 1) ≡ suc k + 1 = omega arith in
    views_left views buffers xs k base c (omega arith) e
    ∙ ap (λ m. map (moved_view base) (views c) ++ moved_views (base + length (buffers c)) (drop m (view_arrays_of views buffers (x ∷ xs)))) n

-- one more base
pub bases_more : (bases : List ℕ) (rs : List ViewArray) (i b : ℕ) → length bases ≡ i → b ≡ base_of rs i → ((k : ℕ) → k < i → get_or bases k 0 ≡ base_of rs k) → (k : ℕ) → k < i + 1 → get_or (bases ++ b ∷ []) k 0 ≡ base_of rs k
bases_more bases rs i b len e known k low = elim (cases_lt k i) [
  | inl h ↦ get_or_append_left bases (b ∷ []) 0 k (omega (arith, h, len)) ∙ known k h
  | inr h ↦ (let here : i ≡ k = omega (arith, h, low) in get_or_at bases b [] 0 k (len ∙ here) ∙ e ∙ ap (base_of rs) here)
]

-- chunks have as many views as values
pub lengths_at : {C D : Type 0} (views : C → List (Option View)) (shown : C → List D) → ((c : C) → length (views c) ≡ length (shown c)) → (cs : List C) (k : ℕ) → length (get_or (map views cs) k []) ≡ length (get_or (map shown cs) k [])
lengths_at views shown same [] k = refl
lengths_at views shown same (x ∷ xs) zero = same x
lengths_at views shown same (x ∷ xs) (suc k) = lengths_at views shown same xs k

-- one more row of a chunk, moved
pub moved_more : (base : ℕ) (vs : List (Option View)) (from i : ℕ) → i < length (drop from vs) → map (moved_view base) (take (i + 1) (drop from vs)) ≡ map (moved_view base) (take i (drop from vs)) ++ moved_view base (get_or vs (from + i) None) ∷ []
moved_more base vs from i low =
    ap (map (moved_view base)) (take_more (drop from vs) i None low)
    ∙ map-append (moved_view base) (take i (drop from vs)) (get_or (drop from vs) i None ∷ [])
    ∙ ap (λ v. map (moved_view base) (take i (drop from vs)) ++ moved_view base v ∷ []) (get_or-drop from vs i None)

-- a part of the views of a chunk, moved
pub moved_part : (base : ℕ) (vs : List (Option View)) (from count : ℕ) → map (moved_view base) (take count (drop from vs)) ≡ take count (drop from (map (moved_view base) vs))
moved_part base vs from count = sym (take-map (moved_view base) count (drop from vs)) ∙ ap (take count) (sym (drop-map (moved_view base) from vs))

pub length-runs_of : {C : Type 0} (views : C → List (Option View)) (buffers : C → List (List ℕ)) (cs : List C) → length (view_arrays_of views buffers cs) ≡ length cs
length-runs_of views buffers [] = refl
length-runs_of views buffers (c ∷ cs) = ap suc (length-runs_of views buffers cs)

-- a view of the only chunk
pub view_of_one : {C : Type 0} (views : C → List (Option View)) (buffers : C → List (List ℕ)) (cs : List C) (base row : ℕ) → length cs ≡ 1 → base ≡ 0 → moved_view base (get_or (get_or (map views cs) 0 []) row None) ≡ get_or (moved_views 0 (view_arrays_of views buffers cs)) row None
view_of_one views buffers [] base row one first = absurd (omega arith)
view_of_one views buffers (c ∷ []) base row one first =
    ap (λ b. moved_view b (get_or (views c) row None)) first
    ∙ moved-0 (get_or (views c) row None)
    ∙ ap (λ vs. get_or vs row None) (sym (append-nil (map (moved_view 0) (views c)) ∙ map-moved-0 (views c)))
view_of_one views buffers (c ∷ d ∷ cs) base row one first = absurd (omega arith)

-- chunks that each have a view for each value
pub runs_viewed : {C D : Type 0} (shown : C → List D) (views : C → List (Option View)) (buffers : C → List (List ℕ)) → ((c : C) → length (views c) ≡ length (shown c)) → (cs : List C) → AreViewed (map shown cs) (view_arrays_of views buffers cs)
runs_viewed shown views buffers same [] = refl
runs_viewed shown views buffers same (c ∷ cs) =
    let h = same c in
    let t = runs_viewed shown views buffers same cs in
    λ i. h i ∷ t i

-- as many views of all as values of all
pub length-whole : {D : Type 0} (lists : List (List D)) (rs : List ViewArray) (base : ℕ) → AreViewed lists rs → length (moved_views base rs) ≡ length (flat_map (λ vs. vs) lists)
length-whole [] [] base same = refl
length-whole [] (r ∷ rs) base same = absurd (omega (arith, ap length same))
length-whole (vs ∷ lists) [] base same = absurd (omega (arith, ap length same))
length-whole (vs ∷ lists) (r ∷ rs) base same =
    let head : length r.views ≡ length vs = cc in
    let tail : AreViewed lists rs = cc in
    let rest = length-whole lists rs (base + length r.buffers) tail in
    length-append (map (moved_view base) r.views) (moved_views (base + length r.buffers) rs)
    ∙ (λ i. (length-map r.views (moved_view base) ∙ head) i + rest i)
    ∙ sym (length-append vs (flat_map (λ vs. vs) lists))

-- all rows over the same buffers
pub window-all : (r : ViewArray) (n : ℕ) → length r.views ≡ n → window_of 0 n r ≡ r
window-all r n same =
    let all = take_all n r.views (omega arith) in
    λ i. record r { views = all i }

-- the run of a chunk
pub views_at : {C : Type 0} (views : C → List (Option View)) (buffers : C → List (List ℕ)) (cs : List C) (k : ℕ) → get_or (map views cs) k [] ≡ (view_array_at (view_arrays_of views buffers cs) k).views
views_at views buffers [] k = refl
views_at views buffers (c ∷ cs) zero = refl
views_at views buffers (c ∷ cs) (suc k) = views_at views buffers cs k

-- the buffers of two, and where those of the second begin
pub buffers_of_two : (rs : List ViewArray) → length rs ≡ 2 → all_buffers rs ≡ (view_array_at rs 0).buffers ++ (view_array_at rs 1).buffers
buffers_of_two [] two = absurd (omega arith)
buffers_of_two (a ∷ []) two = absurd (omega arith)
buffers_of_two (a ∷ b ∷ []) two = ap (λ bs. a.buffers ++ bs) (append-nil b.buffers)
buffers_of_two (a ∷ b ∷ r ∷ rs) two = absurd (omega arith)

pub second_base : (rs : List ViewArray) → length rs ≡ 2 → base_of rs 1 ≡ length (view_array_at rs 0).buffers
second_base [] two = absurd (omega arith)
second_base (a ∷ rs) two = ap length (append-nil a.buffers)

-- the view of a row of a run among all
view_of_row-from : (rs : List ViewArray) (base k i : ℕ) → i < length (view_array_at rs k).views → get_or (moved_views base rs) (sum (take k (map (λ r. length r.views) rs)) + i) None ≡ moved_view (base + base_of rs k) (get_or (view_array_at rs k).views i None)
view_of_row-from [] base k i low = absurd (omega arith)
view_of_row-from (r ∷ rs) base zero i low =
    let start : 0 + i ≡ i = omega arith in
    let same : base ≡ base + 0 = omega arith in
    ap (λ n. get_or (moved_views base (r ∷ rs)) n None) start
    ∙ get_or_append_left (map (moved_view base) r.views) (moved_views (base + length r.buffers) rs) None i (omega (arith, low, length-map r.views (moved_view base)))
    ∙ get_or-map (moved_view base) r.views i None None low
    ∙ ap (λ b. moved_view b (get_or r.views i None)) same
view_of_row-from (r ∷ rs) base (suc k) i low =
    let before = map (λ s. length s.views) rs in
    let place : sum (length r.views ∷ take k before) + i ≡ length (map (moved_view base) r.views) + (sum (take k before) + i) = omega (arith, sum_by-cons (λ n. n) (length r.views) (take k before), length-map r.views (moved_view base)) in
    let further : base + length r.buffers + base_of rs k ≡ base + base_of (r ∷ rs) (suc k) = omega (arith, length-append r.buffers (all_buffers (take k rs))) in
    ap (λ n. get_or (moved_views base (r ∷ rs)) n None) place
    ∙ get_or-append-add (map (moved_view base) r.views) (moved_views (base + length r.buffers) rs) (sum (take k before) + i) None
    ∙ view_of_row-from rs (base + length r.buffers) k i low
    ∙ ap (λ b. moved_view b (get_or (view_array_at rs k).views i None)) further

pub view_of_row : (rs : List ViewArray) (k i : ℕ) → i < length (view_array_at rs k).views → get_or (joined_view_array rs).views (sum (take k (map (λ r. length r.views) rs)) + i) None ≡ moved_view (base_of rs k) (get_or (view_array_at rs k).views i None)
view_of_row rs k i low =
    let first : 0 + base_of rs k ≡ base_of rs k = omega arith in
    view_of_row-from rs 0 k i low ∙ ap (λ b. moved_view b (get_or (view_array_at rs k).views i None)) first

-- all rows of the only chunk
module _ {C D : Type 0} (shown : C → List D) (views : C → List (Option View)) (buffers : C → List (List ℕ)) (viewed : (c : C) → length (views c) ≡ length (shown c)) where
  from_start : (cs : List C) (c : C) (start len : ℕ) → length cs ≡ 1 → c ≡ get_or cs 0 c → len ≡ length (shown c) → start + len ≤ length (flat_map (λ vs. vs) (map shown cs)) → (start ≡ 0) × (cs ≡ c ∷ [])
  from_start [] c start len one e all within = absurd (omega arith)
  from_start (x ∷ []) c start len one e all within =
      let same : length (shown c) ≡ length (shown x) = ap (λ y. length (shown y)) e in
      let begin : start ≡ 0 = omega (arith, within, all, same, ap length (append-nil (shown x))) in
      (begin, (λ i. sym e i ∷ []))
  from_start (x ∷ y ∷ cs) c start len one e all within = absurd (omega arith)

  pub only_shown : (cs : List C) (c : C) (start len : ℕ) → length cs ≡ 1 → c ≡ get_or cs 0 c → len ≡ length (shown c) → start + len ≤ length (flat_map (λ vs. vs) (map shown cs)) → shown c ≡ take len (drop start (flat_map (λ vs. vs) (map shown cs)))
  only_shown cs c start len one e all within =
      let b = from_start cs c start len one e all within in
      sym (
      (λ i. take len (drop (b.0 i) (flat_map (λ vs. vs) (map shown (b.1 i)))))
      ∙ ap (take len) (append-nil (shown c))
      ∙ take_all len (shown c) (omega (arith, all)))

  pub only_run : (cs : List C) (c : C) (start len : ℕ) → length cs ≡ 1 → c ≡ get_or cs 0 c → len ≡ length (shown c) → start + len ≤ length (flat_map (λ vs. vs) (map shown cs)) → record { views = views c; buffers = buffers c } ≡ window_of start len (joined_view_array (view_arrays_of views buffers cs))
  only_run cs c start len one e all within =
      let b = from_start cs c start len one e all within in
      let r : ViewArray = record { views = views c; buffers = buffers c } in
      sym (
      (λ i. window_of (b.0 i) len (joined_view_array (view_arrays_of views buffers (b.1 i))))
      ∙ ap (window_of 0 len) (whole-one r)
      ∙ window-all r len (viewed c ∙ sym all))
