-- A table has twins exactly where one of its parts has.
use Rattle.std.proofs.Common.{◌≡◌, ℕ, ◌<◌, Bool, true, eqb, List, length, get_or, ap, sym, ◌∙◌, arith}
use Rattle.std.specs.Prelude.{◌&&◌, ◌||◌}
use Rattle.std.specs.List.{list_all, list_any}
use Rattle.std.proofs.lemmas.Bool.Decides.{nat_tests}
use Rattle.std.proofs.lemmas.List.Elements.{All-filter, filter_passes}
use Rattle.std.proofs.lemmas.List.Sorted.{list_any-IsPermutation}
use Rattle.tb_value.specs.Promise.Datum.{Datum, is_present}
use Rattle.tb_value.specs.Promise.Pairs.{row_numbers}
use Rattle.tb_value.specs.Promise.Same.{same}
use Rattle.tb_value.proofs.RowNumbers.{rows_below}
use Rattle.tb_frame.specs.Promise.Table.{Table, row_at}
use Rattle.tb_frame.specs.Promise.Refusal.{are_twins, has_twins, is_counted, same_keys}
use Rattle.tb_parts.specs.Laws.{MeetInParts}
use Rattle.tb_parts.specs.Promise.Parts.{rows_in, table_among, whole_row}
use Rattle.tb_parts.proofs.Alike.{twins_alike}
use Rattle.tb_parts.proofs.Among.{field_among, many_among}
use Rattle.tb_parts.proofs.Ascending.{order_stays}
use Rattle.tb_parts.proofs.Listings.{any_stays}
use Rattle.tb_parts.proofs.Lists.{any-alike, any-flat_map, any-map, by_places, each_row}
use Rattle.tb_parts.proofs.Spread.{spread, spread_is}

module _ (nulls : ℕ → Bool) (keys : Table) (part : List Datum → ℕ) (h : ℕ) where
  abbrev part_at : ℕ → ℕ
  part_at i = part (row_at keys i)

  abbrev rows : ℕ → List ℕ
  rows p = rows_in part_at h p

  module _ (p : ℕ) where
    counted_among : (a : ℕ) → a < length (rows p) → is_counted nulls (table_among (rows p) keys) a ≡ is_counted nulls keys (whole_row (rows p) a)
    counted_among a la = λ t. list_all (λ k. is_present (field_among (rows p) keys k a la t) || nulls k) (row_numbers (many_among (rows p) keys t))

    same_among : (a b : ℕ) → a < length (rows p) → b < length (rows p) → same_keys (table_among (rows p) keys) a b ≡ same_keys keys (whole_row (rows p) a) (whole_row (rows p) b)
    same_among a b la lb = λ t. list_all (λ k. same (field_among (rows p) keys k a la t) (field_among (rows p) keys k b lb t)) (row_numbers (many_among (rows p) keys t))

    twins_among : (a b : ℕ) → a < length (rows p) → b < length (rows p) → are_twins nulls (table_among (rows p) keys) a b ≡ are_twins nulls keys (whole_row (rows p) a) (whole_row (rows p) b)
    twins_among a b la lb = λ t. order_stays part_at h p a b la lb t && counted_among a la t && counted_among b lb t && same_among a b la lb t

    -- a part has twins where its rows have, in the whole
    of_part : has_twins nulls (table_among (rows p) keys) (length (rows p)) ≡ list_any (λ i. list_any (are_twins nulls keys i) (rows p)) (rows p)
    of_part =
        let places : List ℕ = row_numbers (length (rows p)) in
        let has : ℕ → Bool = λ i. list_any (are_twins nulls keys i) (rows p) in
        any-alike (λ a. list_any (are_twins nulls (table_among (rows p) keys) a) places) (λ a. has (whole_row (rows p) a)) places
        (each_row (λ a. list_any (are_twins nulls (table_among (rows p) keys) a) places ≡ has (whole_row (rows p) a)) (length (rows p)) (λ a la.
        any-alike (are_twins nulls (table_among (rows p) keys) a) (λ b. are_twins nulls keys (whole_row (rows p) a) (whole_row (rows p) b)) places
        (each_row (λ b. are_twins nulls (table_among (rows p) keys) a b ≡ are_twins nulls keys (whole_row (rows p) a) (whole_row (rows p) b)) (length (rows p)) (λ b lb. twins_among a b la lb))
        ∙ sym (any-map (are_twins nulls keys (whole_row (rows p) a)) (whole_row (rows p)) places)
        ∙ ap (list_any (are_twins nulls keys (whole_row (rows p) a))) (by_places (rows p))))
        ∙ sym (any-map has (whole_row (rows p)) places)
        ∙ ap (list_any has) (by_places (rows p))

    meet : MeetInParts h h (are_twins nulls keys) part_at part_at
    meet = λ i j low under t. ap part (twins_alike nulls keys i j t)

    -- twins of a row of the part are there
    in_part : list_any (λ i. list_any (are_twins nulls keys i) (rows p)) (rows p) ≡ list_any (λ i. list_any (are_twins nulls keys i) (row_numbers h)) (rows p)
    in_part =
        let here : ℕ → Bool = λ i. eqb p (part_at i) in
        any-alike (λ i. list_any (are_twins nulls keys i) (rows p)) (λ i. list_any (are_twins nulls keys i) (row_numbers h)) (rows p) (λ k d low.
        let falls : eqb p (part_at (get_or (rows p) k d)) ≡ true = filter_passes here (row_numbers h) k d low in
        any_stays h h (are_twins nulls keys) part_at part_at meet p (get_or (rows p) k d) (All-filter here (λ i. i < h) (row_numbers h) (rows_below h) k d low) (grind (arith, nat_tests, falls)))

  pub twins_in_parts : (n : ℕ) → ((i : ℕ) → i < h → part_at i < n)
      → has_twins nulls keys h ≡ list_any (λ p. has_twins nulls (table_among (rows p) keys) (length (rows p))) (row_numbers n)
  twins_in_parts n low =
      let has : ℕ → Bool = λ i. list_any (are_twins nulls keys i) (row_numbers h) in
      list_any-IsPermutation has (row_numbers h) (spread part_at n (row_numbers h)) (spread_is part_at n (row_numbers h) (each_row (λ i. part_at i < n) h low))
      ∙ any-flat_map has rows (row_numbers n)
      ∙ ap (λ (f : ℕ → Bool). list_any f (row_numbers n)) (λ t p. sym (of_part p ∙ in_part p) t)
