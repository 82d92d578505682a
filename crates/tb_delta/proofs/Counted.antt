-- The pairs of rows that match are counted by the ids under the keys of the left rows.
use Rattle.std.proofs.Common.{◌≡◌, ◌∙◌, ℕ, suc, ◌+◌, ◌<◌, Bool, List, [], ◌∷◌, length, get_or, map, Some, refl, ap, arith, sym}
use Rattle.std.specs.Prelude.{filter, sum_by}
use Rattle.std.specs.List.{enumerate_from, range_with_len}
use Rattle.std.specs.Map.{values_of}
use Rattle.std.proofs.lemmas.List.{get_or-map, length-map}
use Rattle.std.proofs.lemmas.List.Sums.{sum_by-cons}
use Rattle.tb_value.specs.Promise.Datum.{Datum, null}
use Rattle.tb_value.specs.Promise.Kind.{Kind}
use Rattle.tb_value.specs.Promise.Names.{Name}
use Rattle.tb_value.specs.Promise.Pairs.{both, matched_pairs, row_numbers}
use Rattle.tb_value.specs.See.{datum, data_of}
use Rattle.tb_value.specs.declared.error.Side.TheVariants as side
use Rattle.tb_value.proofs.Counts.{sum_by-agree, sum_by-flat_map, sum_by_ones}
use Rattle.tb_frame.specs.Promise.Join.{listing, matches}
use Rattle.tb_frame.specs.Promise.Table.{height}
use Rattle.tb_delta.specs.Groups.{ids_at}
use Rattle.tb_delta.specs.Inside.{IsView, agreeing, key_of, place_of, state_of, stored}
use Rattle.tb_delta.specs.Promise.Now.{column_now, now, partners_at, table_now}
use Rattle.tb_delta.specs.Promise.State.{Row, SideState, State}
use Rattle.tb_delta.specs.declared.groups.Groups.{Groups}
use Rattle.tb_delta.specs.declared.side_rows.SideRows.{SideRows}
use Rattle.tb_delta.specs.declared.side_rows.StoredRow.{StoredRow}
use Rattle.tb_delta.proofs.Partners.{of_left}

-- a sum over the numbers of the elements is one over the elements
over_numbers : {X : Type 0} (f : ℕ → ℕ) (g : X → ℕ) (xs : List X) (k : ℕ) → ((i : ℕ) (d : X) → i < length xs → f (k + i) ≡ g (get_or xs i d)) → sum_by f (range_with_len k (length xs)) ≡ sum_by g xs
over_numbers f g [] k same = refl
over_numbers {X} f g (x ∷ xs) k same =
    let here : k + 0 ≡ k = omega arith in
    let first : f k ≡ g x = sym (ap f here) ∙ same 0 x (omega arith) in
    let rest : sum_by f (range_with_len (k + 1) (length xs)) ≡ sum_by g xs =
    over_numbers f g xs (k + 1) (λ i d low. let next : (k + 1) + i ≡ k + suc i = omega arith in ap f next ∙ same (suc i) d (omega (arith, low))) in
    sum_by-cons f k (range_with_len (k + 1) (length xs)) ∙ (λ t. first t + rest t) ∙ sym (sum_by-cons g x xs)

-- each left row has as many pairs as right rows match it
by_left_rows : (l r : ℕ) (m : ℕ → ℕ → Bool) → length (matched_pairs l r m) ≡ sum_by (λ i. length (filter (m i) (row_numbers r))) (row_numbers l)
by_left_rows l r m =
    sym (sum_by_ones (matched_pairs l r m))
    ∙ sum_by-flat_map (λ _. 1) (λ i. map (both i) (filter (m i) (row_numbers r))) (row_numbers l)
    ∙ sum_by-agree (λ i. sum_by (λ _. 1) (map (both i) (filter (m i) (row_numbers r)))) (λ i. length (filter (m i) (row_numbers r)))
    (λ i. sum_by_ones (map (both i) (filter (m i) (row_numbers r))) ∙ length-map (filter (m i) (row_numbers r)) (both i)) (row_numbers l)

-- a table with a key has a column, so its height is the number of rows
tall : (rows : List Row) (cs : List (Name × Kind)) (key : Name) (p : ℕ) → place_of cs key ≡ Some p → height (map (column_now rows) (enumerate_from 0 cs)) ≡ length rows
tall rows [] key p is = absurd (cc)
tall rows (c ∷ cs) key p is = length-map rows (λ (r : Row). get_or r.1 0 null)

pub counted : (left right : SideRows) (nulls : Bool) (gs : Groups) → IsView left right nulls gs
    → length (listing (now (state_of left right nulls))) ≡ sum_by (λ (s : StoredRow). length (ids_at gs side.Right s.key)) (values_of left.rows.entries)
counted left right nulls gs x =
    let st : State = state_of left right nulls in
    let es : List (ℕ × StoredRow) = left.rows.entries in
    let m : ℕ → ℕ → Bool = matches (now st) in
    let met : ℕ → ℕ = λ i. length (filter (m i) (row_numbers (length st.right.rows))) in
    let ids : StoredRow → ℕ = λ s. length (ids_at gs side.Right s.key) in
    let long : length (values_of es) ≡ length st.left.rows = length-map es (λ (e : ℕ × StoredRow). e.1) ∙ sym (length-map es stored) in
    let at : (i : ℕ) (d : StoredRow) → i < length (values_of es) → met (0 + i) ≡ ids (get_or (values_of es) i d) = λ i d low.
    let under : i < length es = omega (arith, low, length-map es (λ (e : ℕ × StoredRow). e.1)) in
    let there : i < length st.left.rows = omega (arith, low, long) in
    let e : ℕ × StoredRow = get_or es i (0, d) in
    let row : get_or st.left.rows i (stored (0, d)) ≡ stored e = get_or-map stored es i (0, d) (stored (0, d)) under in
    let value : get_or (values_of es) i d ≡ e.1 = get_or-map (λ (e : ℕ × StoredRow). e.1) es i (0, d) d under in
    let same : 0 + i ≡ i = omega arith in
    ap met same
    ∙ sym (length-map (filter (m i) (row_numbers (length st.right.rows))) (λ j. get_or (map (λ (r : Row). r.0) st.right.rows) j 0))
    ∙ ap (λ (l : List ℕ). length l) (sym (of_left st left.key right.key x.left_placed.place x.right_placed.place i (stored (0, d)) there))
    ∙ ap (λ (r : Row). length (agreeing nulls st.right (key_of st.left r.1))) row
    ∙ ap (λ (k : Datum). length (agreeing nulls st.right k)) (sym (x.left_placed.keyed i (0, d) under))
    ∙ ap (λ (l : List ℕ). length l) (sym (x.kept.grouped side.Right e.1.key))
    ∙ ap ids (sym value) in
    (λ t. length (matched_pairs (tall st.left.rows st.left.columns st.left.key left.key x.left_placed.place t) (tall st.right.rows st.right.columns st.right.key right.key x.right_placed.place t) m))
    ∙ by_left_rows (length st.left.rows) (length st.right.rows) m
    ∙ ap (λ n. sum_by met (row_numbers n)) (sym long)
    ∙ over_numbers met ids (values_of es) 0 at
