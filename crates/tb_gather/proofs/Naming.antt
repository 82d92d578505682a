-- The rows that ids name.
use Rattle.std.proofs.Common.{arith, ◌≡◌, ◌∙◌, ℕ, ◌<◌, ◌+◌, suc, zero, List, [], ◌∷◌, ◌++◌, length, map, get_or, take, ap, sym, Option, Some, None, length-append}
use Rattle.std.specs.List.{sum, fold}
use Rattle.std.proofs.lemmas.List.{get_or_append_left, get_or-append-add}
use Rattle.tb_value.specs.Promise.Datum.{Datum, null}
use Rattle.tb_chunk.specs.Promise.Col.{concatenation}
use Rattle.tb_chunk.specs.Moved.{moved_view}
use Rattle.tb_chunk.specs.Rows.{IsRowOf}
use Rattle.tb_chunk.specs.ViewArrays.{AreBases, view_array_at, view_arrays_of, joined_view_array}
use Rattle.tb_view.specs.declared.view.View.{View}
use Rattle.tb_chunk.proofs.ViewArrays.{length-runs_of, lengths_at, runs_viewed, view_of_row, views_at}
use Rattle.tb_gather.specs.Ids.{Id, row_of, row_or_none, NamesRow}
use Rattle.tb_frame.specs.Frame.{lengths}

sum_from : (a : ℕ) (ns : List ℕ) → fold (λ s n. s + n) a ns ≡ a + sum ns
sum_from a [] = omega arith
sum_from a (n ∷ ns) = omega (arith, sum_from (a + n) ns, sum_from (0 + n) ns)

pub sum-cons : (n : ℕ) (ns : List ℕ) → sum (n ∷ ns) ≡ n + sum ns
sum-cons n ns = omega (arith, sum_from (0 + n) ns)

-- a row of a chunk, found among the values of all chunks
pub value-at : (chunks : List (List Datum)) (c r : ℕ) → r < get_or (lengths chunks) c 0 → get_or (concatenation chunks) (row_of (lengths chunks) (c, r)) null ≡ get_or (get_or chunks c []) r null
value-at [] c r h = absurd (omega arith)
value-at (vs ∷ rest) zero r h =
    let n : 0 + r ≡ r = omega arith in
    ap (λ k. get_or (vs ++ concatenation rest) k null) n ∙ get_or_append_left vs (concatenation rest) null r h
value-at (vs ∷ rest) (suc c) r h =
    let s : ℕ = sum (take c (lengths rest)) in
    let n : sum (length vs ∷ take c (lengths rest)) + r ≡ length vs + (s + r) = omega (arith, sum-cons (length vs) (take c (lengths rest))) in
    ap (λ k. get_or (vs ++ concatenation rest) k null) n ∙ get_or-append-add vs (concatenation rest) (s + r) null ∙ value-at rest c r h

-- a view of a chunk, found among the views of all chunks
pub view-at : {C : Type 0} (shown : C → List Datum) (views : C → List (Option View)) (buffers : C → List (List ℕ)) → ((c : C) → length (views c) ≡ length (shown c))
    → (cs : List C) (bases : List ℕ) (k i : ℕ) → AreBases bases (view_arrays_of views buffers cs) → k < length cs → i < length (get_or (map shown cs) k [])
    → get_or (joined_view_array (view_arrays_of views buffers cs)).views (row_of (lengths (map shown cs)) (k, i)) None
    ≡ moved_view (get_or bases k 0) (get_or (get_or (map views cs) k []) i None)
view-at shown views buffers viewed cs bases k i are low within =
    let rs = view_arrays_of views buffers cs in
    let run = views_at views buffers cs k in
    let inside : i < length (view_array_at rs k).views = omega (arith, within, lengths_at views shown viewed cs k, ap (λ (vs : List (Option View)). length vs) run) in
    ap (λ (ns : List ℕ). get_or (joined_view_array rs).views (sum (take k ns) + i) None) (sym (runs_viewed shown views buffers viewed cs))
    ∙ view_of_row rs k i inside
    ∙ ap (λ b. moved_view b (get_or (view_array_at rs k).views i None)) (sym (are k (omega (arith, low, length-runs_of views buffers cs))))
    ∙ ap (λ (vs : List (Option View)). moved_view (get_or bases k 0) (get_or vs i None)) (sym run)

row-low : (chunks : List (List Datum)) (c r : ℕ) → r < get_or (lengths chunks) c 0 → row_of (lengths chunks) (c, r) < length (concatenation chunks)
row-low [] c r h = absurd (omega arith)
row-low (vs ∷ rest) zero r h = omega (arith, h, length-append vs (concatenation rest))
row-low (vs ∷ rest) (suc c) r h = omega (arith, sum-cons (length vs) (take c (lengths rest)), row-low rest c r h, length-append vs (concatenation rest))

pub row-before : (lens : List ℕ) (c d r s : ℕ) → c < d → d < length lens → r < get_or lens c 0 → row_of lens (c, r) < row_of lens (d, s)
row-before [] c d r s less high h = absurd (omega arith)
row-before (n ∷ ns) c zero r s less high h = absurd (omega arith)
row-before (n ∷ ns) zero (suc d) r s less high h = omega (arith, h, sum-cons n (take d ns))
row-before (n ∷ ns) (suc c) (suc d) r s less high h = omega (arith, sum-cons n (take c ns), sum-cons n (take d ns), row-before ns c d r s (omega arith) (omega arith) h)

-- the rows that ids name are rows of the values of all chunks
pub named-row : (chunks : List (List Datum)) (id : Id) → NamesRow (lengths chunks) id → IsRowOf (length (concatenation chunks)) (row_or_none (lengths chunks) id)
named-row chunks None named = tt
named-row chunks (Some p) named = row-low chunks p.0 p.1 named.1
