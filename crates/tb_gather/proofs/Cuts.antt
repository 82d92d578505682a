-- Rows of chunks that are cut anew.
use Rattle.std.proofs.Common.{arith, ◌≡◌, ◌∙◌, ℕ, ◌<◌, ◌≤◌, ◌-◌, suc, zero, inl, inr, ◌⊎◌, List, [], ◌∷◌, map, get_or, take, ap, sym, refl, Option, Some, None}
use Rattle.std.specs.List.{sum}
use Rattle.std.proofs.lemmas.Bool.{cases_lt}
use Rattle.tb_value.specs.Promise.Datum.{Datum}
use Rattle.tb_value.specs.declared.sorted.IsSorted.{IsSorted}
use Rattle.tb_chunk.specs.Promise.Col.{Col, concatenation, values}
use Rattle.tb_chunk.specs.Made.{IsOf}
use Rattle.tb_view.specs.Promise.ViewArrays.{ViewArray}
use Rattle.tb_chunk.specs.ViewArrays.{view_or_none}
use Rattle.tb_view.specs.declared.view.View.{View}
use Rattle.tb_frame.specs.Frame.{lens, lengths}
use Rattle.tb_gather.specs.Ids.{Id, NamesRow, row_of, row_or_none}
use Rattle.tb_gather.specs.Gathered.{gathered_column, pick, value_of_id}
use Rattle.tb_gather.proofs.Naming.{sum-cons}

-- what is gathered is picked by the numbers of the rows
pub gathered-pick : (chunks : List (List Datum)) (ids : List Id) → map (value_of_id chunks) ids ≡ pick (concatenation chunks) (map (row_or_none (lengths chunks)) ids)
gathered-pick chunks [] = refl
gathered-pick chunks (id ∷ ids) = ap (λ vs. value_of_id chunks id ∷ vs) (gathered-pick chunks ids)

-- views are picked by the numbers of the rows
pub picked-numbers : {R : Type 0} (number : R → Option ℕ) (rows : List R) (vs : List (Option View)) → map (λ r. view_or_none vs (number r)) rows ≡ map (view_or_none vs) (map number rows)
picked-numbers number [] vs = refl
picked-numbers number (r ∷ rows) vs = ap (λ ws. view_or_none vs (number r) ∷ ws) (picked-numbers number rows vs)

pub gathered-along : (c : Col) (chunks : List (List Datum)) (runs : List ViewArray) (ids along : List Id) (sorted : IsSorted)
    → concatenation chunks ≡ values c → map (row_or_none (lengths chunks)) along ≡ map (row_or_none (lens c)) ids
    → IsOf c.name c.kind (gathered_column ids sorted c).chunks (gathered_column ids sorted c).flag (gathered_column along sorted (record c { chunks = chunks; view_arrays = runs }))
gathered-along c chunks runs ids along sorted same_values same =
    let picked : map (value_of_id chunks) along ≡ map (value_of_id c.chunks) ids =
    gathered-pick chunks along ∙ ((λ i. pick (same_values i) (same i)) ∙ sym (gathered-pick c.chunks ids))
    in
    let cut : Col = record c { chunks = chunks; view_arrays = runs } in
    λ i. let k : Col = record (gathered_column along sorted cut) { chunks = picked i ∷ [] } in k

-- the row that a number is of
row-at : (ns : List ℕ) (r : ℕ) → r < sum ns → (p : ℕ × ℕ) × NamesRow ns (Some p) × (row_of ns p ≡ r)
row-at [] r low = absurd (omega arith)
row-at (n ∷ ns) r low = by_chunk (cases_lt r n) (λ behind. row-at ns (r - n) (omega (arith, low, sum-cons n ns, behind)))
  where
    by_chunk : (r < n) ⊎ (n ≤ r) → (n ≤ r → (p : ℕ × ℕ) × NamesRow ns (Some p) × (row_of ns p ≡ r - n)) → (p : ℕ × ℕ) × NamesRow (n ∷ ns) (Some p) × (row_of (n ∷ ns) p ≡ r)
    by_chunk (inl here) later = ((0, r), (omega arith, here), omega arith)
    by_chunk (inr behind) later =
        let rest = later behind in
        let p = rest.0 in
        ((suc p.0, p.1), (omega (arith, rest.1.0), rest.1.1), omega (arith, sum-cons n (take p.0 ns), rest.2))

row-low : (ns : List ℕ) (c r : ℕ) → r < get_or ns c 0 → row_of ns (c, r) < sum ns
row-low [] c r h = absurd (omega arith)
row-low (n ∷ ns) zero r h = omega (arith, h, sum-cons n ns)
row-low (n ∷ ns) (suc c) r h = omega (arith, sum-cons n (take c ns), sum-cons n ns, row-low ns c r h)

pub along-id : (before after : List ℕ) (id : Id) → sum before ≡ sum after → NamesRow before id → (along : Id) × NamesRow after along × (row_or_none after along ≡ row_or_none before id)
along-id before after None same named = (None, tt, refl)
along-id before after (Some p) same named =
    let rest = row-at after (row_of before p) (omega (arith, same, row-low before p.0 p.1 named.1)) in
    (Some rest.0, rest.1, ap Some rest.2)
