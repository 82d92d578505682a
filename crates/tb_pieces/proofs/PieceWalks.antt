-- Rows of a column that are found from a chunk on.
use Rattle.std.proofs.Common.{◌≡◌, ◌<◌, ◌≤◌, ◌+◌, ◌-◌, ◌++◌, ◌∙◌, ◌∷◌, [], ℕ, suc, List, length, map, drop, take, get_or, sym, ap, arith, subst, length-append}
use Rattle.std.specs.List.{FoldsTo}
use Rattle.std.proofs.Math.Seq.{drop-append_seam}
use Rattle.std.proofs.lemmas.List.{drop-drop, drop-map, drop_more, take_rest}
use Rattle.tb_value.specs.Promise.Datum.{Datum, null}
use Rattle.tb_chunk.specs.Promise.Col.{concatenation}

chunk_next : (ls : List (List Datum)) (i : ℕ) → i < length ls → concatenation (drop i ls) ≡ get_or ls i [] ++ concatenation (drop (i + 1) ls)
chunk_next ls i low = ap concatenation (drop_more ls i [] low)

-- the rows of one more chunk are passed over
pub rows_passed : (ls : List (List Datum)) (i before n : ℕ) → i < length ls → n ≡ length (get_or ls i [])
    → drop before (concatenation ls) ≡ concatenation (drop i ls) → drop (before + n) (concatenation ls) ≡ concatenation (drop (i + 1) ls)
rows_passed ls i before n low is rows =
    ap (λ m. drop (before + m) (concatenation ls)) is
    ∙ sym (drop-drop (length (get_or ls i [])) before (concatenation ls))
    ∙ ap (drop (length (get_or ls i []))) (rows ∙ chunk_next ls i low)
    ∙ drop-append_seam (get_or ls i []) (concatenation (drop (i + 1) ls))

pub length_passed : (ls : List (List Datum)) (i n : ℕ) → i < length ls → n ≡ length (get_or ls i []) → length (concatenation (drop i ls)) ≡ n + length (concatenation (drop (i + 1) ls))
length_passed ls i n low is =
    ap length (chunk_next ls i low) ∙ length-append (get_or ls i []) (concatenation (drop (i + 1) ls)) ∙ ap (λ m. m + length (concatenation (drop (i + 1) ls))) (sym is)

-- what the chunks from one on show
pub rest_shown : {X : Type 0} (f : X → List Datum) (xs : List X) (i : ℕ) → map f (take (length xs - i) (drop i xs)) ≡ drop i (map f xs)
rest_shown f xs i = ap (map f) (take_rest xs i) ∙ sym (drop-map f i xs)

-- before the values that are left, the one of a row was read
pub read_before : {S : Type 0} (Reads : S → Datum → S → Type 0) (vs : List Datum) (row end : ℕ) (v : Datum) (before after last : S)
    → row < end → end ≤ length vs → v ≡ get_or vs row null → Reads before v after
    → FoldsTo Reads after (take (end - (row + 1)) (drop (row + 1) vs)) last → FoldsTo Reads before (take (end - row) (drop row vs)) last
read_before Reads vs row end v before after last low within is reads rest =
    let count : end - row ≡ suc (end - (row + 1)) = omega (arith, low) in
    let here : drop row vs ≡ v ∷ drop (row + 1) vs = drop_more vs row null (omega (arith, low, within)) ∙ ap (λ u. u ∷ drop (row + 1) vs) (sym is) in
    let left : take (end - row) (drop row vs) ≡ v ∷ take (end - (row + 1)) (drop (row + 1) vs) = ap (λ n. take n (drop row vs)) count ∙ ap (take (suc (end - (row + 1)))) here in
    subst (λ us. FoldsTo Reads before us last) (sym left) (after, reads, rest)
