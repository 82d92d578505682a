-- The rows that ids name, over the buffers that their texts lie in.
use Rattle.std.proofs.Common.{arith, ◌≡◌, ◌∙◌, ◌<◌, ℕ, zero, suc, List, [], ◌∷◌, ◌++◌, length, map, get_or, take, ap, sym, refl, Option, Some, None, Contains, append-nil, subst, ◌+◌, ◌&&◌, Bool, true, false, lt-ltb, ltb-true}
use Rattle.std.specs.Prelude.{if◌then◌else◌, IfSome, filter_map, nat_lt}
use Rattle.std.specs.List.{cons_option, position_or_len}
use Rattle.std.proofs.lemmas.Option.{IfSome_then}
use Rattle.std.proofs.lemmas.List.Elements.{filter_map-append}
use Rattle.indexmap.specs.IndexSet.{insert_key}
use Rattle.std.proofs.lemmas.List.{get_or-map, length-map, take_more}
use Rattle.tb_value.specs.Promise.Datum.{Datum, null}
use Rattle.tb_chunk.specs.Held.{StandsAt}
use Rattle.tb_chunk.specs.Moved.{used_buffer}
use Rattle.tb_view.specs.Promise.ViewArrays.{ViewArray}
use Rattle.tb_chunk.specs.ViewArrays.{picked_of, view_array_at, view_arrays_of, joined_view_array}
use Rattle.tb_view.specs.declared.view.View.{View}
use Rattle.tb_frame.specs.Frame.{lengths}
use Rattle.tb_gather.specs.Gathered.{value_of_id}
use Rattle.tb_gather.specs.Ids.{Id, NamesRow, row_or_none}
use Rattle.tb_gather.specs.Kept.{Place, buffer_at, each_once, kept_buffers, kept_view_array, number_in, place_of, same_place, used_places, used_view_array, named_view}
use Rattle.tb_gather.specs.declared.keep.Keep.TheVariants.{Used}
use Rattle.tb_gather.proofs.Naming.{value-at}
use Rattle.tb_gather.proofs.Places.{Contains-gathered, Contains-once, at-number, number-low, number-there, once-more}

-- A ROW OF A CHUNK

module _ {C : Type 0} (shown : C → List Datum) (cs : List C) (p : ℕ × ℕ) (named : NamesRow (lengths (map shown cs)) (Some p)) where
  pub chunk-low : p.0 < length cs
  chunk-low = omega (arith, named.0, length-map (map shown cs) (λ (vs : List Datum). length vs), length-map cs shown)

  module _ (c : C) (is : c ≡ get_or cs p.0 c) where
    shown-there : get_or (map shown cs) p.0 [] ≡ shown c
    shown-there = get_or-map shown cs p.0 c [] chunk-low ∙ ap shown (sym is)

    pub row-low : p.1 < length (shown c)
    row-low = omega (arith, named.1, get_or-map (λ (vs : List Datum). length vs) (map shown cs) p.0 [] 0 (omega (arith, chunk-low, length-map cs shown)), ap (λ (vs : List Datum). length vs) shown-there)

    pub value-there : value_of_id (map shown cs) (Some p) ≡ get_or (shown c) p.1 null
    value-there = value-at (map shown cs) p.0 p.1 named.1 ∙ ap (λ vs. get_or vs p.1 null) shown-there

-- the run of a chunk
pub run-there : {C : Type 0} (views : C → List (Option View)) (buffers : C → List (List ℕ)) (cs : List C) (k : ℕ) (c : C) → k < length cs → c ≡ get_or cs k c → view_array_at (view_arrays_of views buffers cs) k ≡ record { views = views c; buffers = buffers c }
run-there views buffers [] k c low is = absurd (omega arith)
run-there views buffers (x ∷ xs) zero c low is = λ i. let r : ViewArray = record { views = views (sym is i); buffers = buffers (sym is i) } in r
run-there views buffers (x ∷ xs) (suc k) c low is = run-there views buffers xs k c (omega arith) is

pub view-there : {C : Type 0} (views : C → List (Option View)) (buffers : C → List (List ℕ)) (cs : List C) (p : ℕ × ℕ) (c : C) → p.0 < length cs → c ≡ get_or cs p.0 c → named_view (view_arrays_of views buffers cs) (Some p) ≡ get_or (views c) p.1 None
view-there views buffers cs p c low is = ap (λ (r : ViewArray). get_or r.views p.1 None) (run-there views buffers cs p.0 c low is)

-- WHERE ITS TEXT LIES

-- among the buffers of places, that of a place has the place's number
stands-at : (rs : List ViewArray) (ps : List Place) (p : Place) → Contains ps p → (n : ℕ) → n ≡ position_or_len (same_place p) ps → (n < length (map (buffer_at rs) ps)) × (get_or (map (buffer_at rs) ps) n [] ≡ buffer_at rs p)
stands-at rs ps p there n is =
    let low : n < length ps = omega (arith, is, number-low ps p there) in
    (omega (arith, low, length-map ps (buffer_at rs)), get_or-map (buffer_at rs) ps n p [] low ∙ ap (buffer_at rs) (ap (λ k. get_or ps k p) is ∙ at-number ps p p there))

pub stands-there : (rs : List ViewArray) (ps : List Place) (all : List (List ℕ)) (p : ℕ × ℕ) (n : Option ℕ) → all ≡ map (buffer_at rs) ps → IfSome (place_of rs (Some p)) (Contains ps) → n ≡ number_in ps (place_of rs (Some p)) → StandsAt all n (view_array_at rs p.0).buffers (named_view rs (Some p))
stands-there rs ps all p n held used is = by (used_buffer (named_view rs (Some p))) refl
  where
    by : (u : Option ℕ) → used_buffer (named_view rs (Some p)) ≡ u → StandsAt all n (view_array_at rs p.0).buffers (named_view rs (Some p))
    by None e = rw e tt
    by (Some b) e =
        let there : Contains ps (p.0, b) = rw e at used in
        let number : n ≡ Some (position_or_len (same_place (p.0, b)) ps) = (rw e at is) ∙ number-there ps (p.0, b) there in
        rw (e, held, number) (λ low. stands-at rs ps (p.0, b) there (position_or_len (same_place (p.0, b)) ps) refl)

-- ONE MORE ID

module _ (rs : List ViewArray) (ids : List Id) (i : ℕ) (id : Id) (low : i < length ids) (is : id ≡ get_or ids i id) where
  places-more : filter_map (place_of rs) (take (i + 1) ids) ≡ filter_map (place_of rs) (take i ids) ++ cons_option (place_of rs id) []
  places-more =
      ap (filter_map (place_of rs)) (take_more ids i id low) ∙ filter_map-append (place_of rs) (take i ids) (get_or ids i id ∷ [])
      ∙ ap (λ k. filter_map (place_of rs) (take i ids) ++ cons_option (place_of rs k) []) (sym is)

  -- the places in use so far, where its text lies in none
  pub used-same : (before after : List Place) → after ≡ before → before ≡ used_places rs (take i ids) → place_of rs id ≡ None → after ≡ used_places rs (take (i + 1) ids)
  used-same before after same so_far none =
      same ∙ so_far ∙ ap each_once (sym (places-more ∙ ap (λ o. filter_map (place_of rs) (take i ids) ++ cons_option o []) none ∙ append-nil (filter_map (place_of rs) (take i ids))))

  -- and where it lies in one
  pub used-more : (p : Place) (before after : List Place) → after ≡ insert_key same_place before p → before ≡ used_places rs (take i ids) → place_of rs id ≡ Some p → after ≡ used_places rs (take (i + 1) ids)
  used-more p before after put so_far some =
      put ∙ ap (λ ps. insert_key same_place ps p) so_far
      ∙ sym (ap each_once (places-more ∙ ap (λ o. filter_map (place_of rs) (take i ids) ++ cons_option o []) some) ∙ once-more (filter_map (place_of rs) (take i ids)) p)

  -- the place of an id of the list is among those in use
  pub used-there : IfSome (place_of rs id) (Contains (used_places rs ids))
  used-there =
      subst (λ k. IfSome (place_of rs k) (Contains (used_places rs ids))) (sym is)
      (IfSome_then (place_of rs (get_or ids i id)) (Contains-gathered (place_of rs) ids i id low) (λ p there. Contains-once (filter_map (place_of rs) ids) p there))

-- WHICH BUFFERS ARE KEPT

buffers-of : (b : Bool) (r s : ViewArray) → (if b then r else s).buffers ≡ (if b then r.buffers else s.buffers)
buffers-of true r s = refl
buffers-of false r s = refl

pub buffers-kept : (lens : List ℕ) (ids : List Id) (rs : List ViewArray) → (kept_view_array Used lens ids rs).buffers ≡ kept_buffers rs ids
buffers-kept lens ids [] = by (nat_lt (length ids) 0) refl
  where
    by : (b : Bool) → nat_lt (length ids) 0 ≡ b → [] ≡ (if nat_lt (length ids) 0 then map (buffer_at []) (used_places [] ids) else [])
    by true e = absurd (omega (arith, ltb-true (length ids) 0 e))
    by false e = ap (λ c. if c then map (buffer_at []) (used_places [] ids) else []) (sym e)
buffers-kept lens ids (r ∷ []) = append-nil r.buffers
buffers-kept lens ids (r ∷ s ∷ more) =
    let rs : List ViewArray = r ∷ s ∷ more in
    let many : nat_lt 1 (length rs) ≡ true = lt-ltb 1 (length rs) (omega arith) in
    let all : ViewArray = picked_of (row_or_none lens) ids (joined_view_array rs) in
    ap (λ b. (if b && nat_lt (length ids) (length rs) then used_view_array rs ids else all).buffers) many ∙ buffers-of (nat_lt (length ids) (length rs)) (used_view_array rs ids) all
