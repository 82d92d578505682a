-- Facts on texts that are put into buffers.
use Rattle.std.proofs.Common.{arith, ◌≡◌, ◌≤◌, ◌<◌, ◌+◌, ◌-◌, ◌++◌, ◌∷◌, [], ℕ, List, Option, Some, None, length, take, replicate, map, zero, suc, refl, sym, ◌∙◌, ap, length-append}
use Rattle.std.specs.List.{All, fold}
use Rattle.std.specs.Option.{option_map}
use Rattle.std.proofs.lemmas.List.{map-append, take_all}
use Rattle.std.proofs.lemmas.List.Elements.{All-append, All-cons, All-nil, All-replicate}
use Rattle.std.proofs.lemmas.List.Sums.{fold_push}
use Rattle.tb_view.specs.Promise.Layout.{Filling, with_text, buffers_of, long_view, next_view, next_views}
use Rattle.tb_view.specs.Layout.{Building, IsPut, IsRow, all_of, building_of, with_nulls, with_row, with_rows}
use Rattle.tb_view.specs.View.{buffer_of, offset_of, row_text, texts, IsViewOrNone}
use Rattle.tb_view.specs.declared.view.View.{View}
use Rattle.tb_view.proofs.Views.{IsView-last, Extend-further, Extend-last, rows-extend, rows-drop_last}

-- what the view of a text says that stands behind b in the buffer behind bs
pub record IsBehind (bs : List (List ℕ)) (b t : List ℕ) (v : View) : Type 0 where
  pub len : v.length ≡ length t
  pub front : take 4 v.rest ≡ take 4 t
  pub buffer : buffer_of v ≡ length bs
  pub offset : offset_of v ≡ length b
  pub is : v ≡ long_view t (length bs) (length b)

pub placed_fits : (s : Filling) (t : List ℕ) → 12 < length t → length s.1 + length t ≤ 4294967295 → with_text s (Some t) ≡ (s.0, s.1 ++ t)
placed_fits s t l h = grind arith

pub placed_passes : (s : Filling) (t : List ℕ) → 12 < length t → 4294967295 < length s.1 + length t → with_text s (Some t) ≡ (s.0 ++ s.1 ∷ [], t)
placed_passes s t l h = grind arith

long_fits : (s : Filling) (t : List ℕ) → 12 < length t → length s.1 + length t ≤ 4294967295 → next_view s t ≡ long_view t (length s.0) (length s.1)
long_fits s t l h = grind arith

long_passes : (s : Filling) (t : List ℕ) → 12 < length t → 4294967295 < length s.1 + length t → next_view s t ≡ long_view t (length s.0 + 1) 0
long_passes s t l h = grind arith

pub put_fits : (s : Filling) (t : List ℕ) (v : View) → 12 < length t → length s.1 + length t ≤ 4294967295 → IsBehind s.0 s.1 t v → IsPut t s (s.0, s.1 ++ t) v
put_fits s t v l h p =
    let n = IsView-last s.0 s.1 t v l p.len p.front p.buffer p.offset in
    record {
      placed = sym (placed_fits s t l h);
      kept = λ vs a. rows-extend (all_of s) (s.0 ++ (s.1 ++ t) ∷ []) vs (Extend-last s.0 s.1 t) a;
      view = n.0;
      text = n.1;
      is = p.is ∙ sym (long_fits s t l h);
    }

pub put_passes : (s : Filling) (t : List ℕ) (v : View) → 12 < length t → 4294967295 < length s.1 + length t → IsBehind (all_of s) [] t v → IsPut t s (all_of s, t) v
put_passes s t v l h p =
    let n = IsView-last (all_of s) [] t v l p.len p.front p.buffer p.offset in
    record {
      placed = sym (placed_passes s t l h);
      kept = λ vs a. rows-extend (all_of s) (all_of s ++ t ∷ []) vs (Extend-further (all_of s) (t ∷ [])) a;
      view = n.0;
      text = n.1;
      is = p.is ∙ ap (λ k. long_view t k 0) (length-append s.0 (s.1 ∷ [])) ∙ sym (long_passes s t l h);
    }

-- more rows whose views stand over the new buffers
pub rows_more : (s s' : Filling) (vs ws : List (Option View)) (o : Option (List ℕ)) (w : Option View) → IsRow o s s' w → All (IsViewOrNone (all_of s)) vs → All (IsViewOrNone (all_of s')) ws → All (IsViewOrNone (all_of s')) (vs ++ ws) × (texts (all_of s') (vs ++ ws) ≡ texts (all_of s) vs ++ texts (all_of s') ws)
rows_more s s' vs ws o w r a b =
    let k = r.kept vs a in (
      All-append (IsViewOrNone (all_of s')) vs ws k.0 b,
      map-append (row_text (all_of s')) vs ws ∙ ap (λ ts. ts ++ texts (all_of s') ws) k.1,
    )

-- what a builder of these views over these buffers holds
abbrev pub seen : Filling → List (Option View) → Building
seen s vs = record { rows = texts (all_of s) vs; views = vs; laid = s }

-- one more row
pub row_pushed : (s s' : Filling) (vs : List (Option View)) (o : Option (List ℕ)) (w : Option View) → IsRow o s s' w → All (IsViewOrNone (all_of s)) vs → All (IsViewOrNone (all_of s')) (vs ++ w ∷ []) × (seen s' (vs ++ w ∷ []) ≡ with_row (seen s vs) o)
row_pushed s s' vs o w r a =
    let m = rows_more s s' vs (w ∷ []) o w r a (All-cons (IsViewOrNone (all_of s')) w [] r.view (All-nil (IsViewOrNone (all_of s')))) in
    let e : texts (all_of s') (vs ++ w ∷ []) ≡ texts (all_of s) vs ++ o ∷ [] = m.1 ∙ ap (λ t. texts (all_of s) vs ++ t ∷ []) r.text in
    (m.0, λ i. record { rows = e i; views = vs ++ r.is i ∷ []; laid = r.placed i })

pub map-replicate : {A B : Type 0} (f : A → B) (n : ℕ) (x : A) → map f (replicate n x) ≡ replicate n (f x)
map-replicate f zero x = refl
map-replicate f (suc n) x = ap (λ xs. f x ∷ xs) (map-replicate f n x)

-- n more rows of one view
pub rows_pushed : (s s' : Filling) (vs : List (Option View)) (t : List ℕ) (w : Option View) (n : ℕ) → IsRow (Some t) s s' w → All (IsViewOrNone (all_of s)) vs → All (IsViewOrNone (all_of s')) (vs ++ replicate n w) × (seen s' (vs ++ replicate n w) ≡ with_rows (seen s vs) t n)
rows_pushed s s' vs t w n r a =
    let m = rows_more s s' vs (replicate n w) (Some t) w r a (All-replicate (IsViewOrNone (all_of s')) n w r.view) in
    let e : texts (all_of s') (vs ++ replicate n w) ≡ texts (all_of s) vs ++ replicate n (Some t) = m.1 ∙ ap (λ ts. texts (all_of s) vs ++ ts) (map-replicate (row_text (all_of s')) n w ∙ ap (replicate n) r.text) in
    (m.0, λ i. record { rows = e i; views = vs ++ replicate n (r.is i); laid = r.placed i })

-- one more view
views_placed-push : (s : Filling) (ts : List (Option (List ℕ))) (o : Option (List ℕ)) → next_views s ts ++ option_map (next_view (fold with_text s ts)) o ∷ [] ≡ next_views s (ts ++ o ∷ [])
views_placed-push s [] o = refl
views_placed-push s (t ∷ ts) o = ap (λ vs. option_map (next_view s) t ∷ vs) (views_placed-push (with_text s t) ts o)

pub built-push : (ts : List (Option (List ℕ))) (o : Option (List ℕ)) → with_row (building_of ts) o ≡ building_of (ts ++ o ∷ [])
built-push ts o =
    let e = fold_push with_text ([], []) ts o in
    let v = views_placed-push ([], []) ts o in
    λ i. record { rows = ts ++ o ∷ []; views = v i; laid = sym e i }

-- the buffers at the end hold the same texts
pub rows-begun : (s : Filling) (vs : List (Option View)) → All (IsViewOrNone (all_of s)) vs → All (IsViewOrNone (buffers_of s)) vs × (texts (buffers_of s) vs ≡ texts (all_of s) vs)
rows-begun (full, []) vs a = rows-drop_last full vs a
rows-begun (full, b ∷ bs) vs a = (a, refl)

-- n more rows without a text
pub nulls_pushed : (s : Filling) (vs : List (Option View)) (n : ℕ) → All (IsViewOrNone (all_of s)) vs → All (IsViewOrNone (all_of s)) (vs ++ replicate n None) × (seen s (vs ++ replicate n None) ≡ with_nulls (seen s vs) n)
nulls_pushed s vs n a =
    let e : texts (all_of s) (vs ++ replicate n None) ≡ texts (all_of s) vs ++ replicate n None =
    map-append (row_text (all_of s)) vs (replicate n None) ∙ ap (λ ts. texts (all_of s) vs ++ ts) (map-replicate (row_text (all_of s)) n None) in
    (All-append (IsViewOrNone (all_of s)) vs (replicate n None) a (All-replicate (IsViewOrNone (all_of s)) n None tt), λ i. record { rows = e i; views = vs ++ replicate n None; laid = s })

-- rows to which a vector of that length is resized
pub resized : (vs : List (Option View)) (w : Option View) (len rows times : ℕ) → len ≡ length vs → rows ≡ len + times → take rows vs ++ replicate (rows - len) w ≡ vs ++ replicate times w
resized vs w len rows times e f =
    let all : take rows vs ≡ vs = take_all rows vs (omega arith) in
    let more : rows - len ≡ times = omega arith in
    λ i. all i ++ replicate (more i) w
