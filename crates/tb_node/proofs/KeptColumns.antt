-- Columns of an answer over the pairs that pass.
use Rattle.std.proofs.Common.{◌≡◌, ℕ, zero, suc, ◌+◌, Bool, true, false, cond, List, [], ◌∷◌, length, get_or, map, refl, ap, arith, ◌∙◌, Option, Some, None}
use Rattle.std.specs.Prelude.{filter, option_map, All}
use Rattle.std.specs.List.{range_with_len}
use Rattle.std.proofs.lemmas.List.{get_or-map, length-map}
use Rattle.tb_value.specs.Promise.Datum.{Datum, null}
use Rattle.tb_value.specs.Promise.Pairs.{row_numbers}
use Rattle.tb_value.specs.declared.index.JoinPair.{JoinPair}
use Rattle.tb_value.proofs.Loops.{map-map}
use Rattle.tb_chunk.specs.Rows.{IsRowOf}
use Rattle.tb_frame.specs.Answer.{fill}
use Rattle.tb_frame.specs.Promise.Join.{Out, value_at}
use Rattle.tb_frame.specs.Promise.Table.{TableColumn}
use Rattle.tb_filter.specs.Promise.Filtered.{Check, passes, rows_kept, with_rows}
use Rattle.tb_node.specs.Kept.{kept, over_all}
use Rattle.tb_value.proofs.Kept.{filter-map}

shifted : (a n : ℕ) → range_with_len (suc a) n ≡ map suc (range_with_len a n)
shifted a zero = refl
shifted a (suc n) = let next : suc a + 1 ≡ suc (a + 1) = omega arith in
    ap (λ (l : List ℕ). suc a ∷ l) (ap (λ b. range_with_len b n) next ∙ shifted (a + 1) n)

-- the values at the places whose other value passes
pub picked : (f g : JoinPair → Datum) (t : Datum → Bool) (ps : List JoinPair)
    → map (λ i. get_or (map f ps) i null) (filter (λ i. t (get_or (map g ps) i null)) (row_numbers (length ps))) ≡ map f (filter (λ p. t (g p)) ps)
picked f g t [] = refl
picked f g t (p ∷ ps) =
    let here : ℕ → Datum = λ i. get_or (map f (p ∷ ps)) i null in
    let test : ℕ → Bool = λ i. t (get_or (map g (p ∷ ps)) i null) in
    let rest : List ℕ = filter (λ i. t (get_or (map g ps) i null)) (row_numbers (length ps)) in
    let later : filter test (range_with_len 1 (length ps)) ≡ map suc rest = ap (filter test) (shifted 0 (length ps)) ∙ filter-map suc test (row_numbers (length ps)) in
    let values : map here (map suc rest) ≡ map f (filter (λ q. t (g q)) ps) = map-map here suc rest ∙ picked f g t ps in
    ap (λ (l : List ℕ). map here (cond (t (g p)) (0 ∷ l) l)) later ∙ at here rest refl values (t (g p))
  where
    at : (here : ℕ → Datum) (rest : List ℕ) → here 0 ≡ f p → map here (map suc rest) ≡ map f (filter (λ q. t (g q)) ps) → (b : Bool) → map here (cond b (0 ∷ map suc rest) (map suc rest)) ≡ map f (cond b (p ∷ filter (λ q. t (g q)) ps) (filter (λ q. t (g q)) ps))
    at here rest z e true = λ i. z i ∷ e i
    at here rest z e false = e

pub kept_rows : (k : Check) (c : Out) (os : List Out) (ps : List JoinPair)
    → with_rows (rows_kept k (fill ps c)) (map (fill ps) os) ≡ map (fill (filter (λ (pair : JoinPair). passes k (c.at pair)) ps)) os
kept_rows k c [] ps = refl
kept_rows k c (o ∷ os) ps =
    let few : List JoinPair = filter (λ (pair : JoinPair). passes k (c.at pair)) ps in
    let column : map (λ i. get_or (map o.at ps) i null) (rows_kept k (fill ps c)) ≡ map o.at few =
    ap (λ n. map (λ i. get_or (map o.at ps) i null) (filter (λ i. passes k (get_or (map c.at ps) i null)) (row_numbers n))) (length-map ps c.at) ∙ picked o.at c.at (passes k) ps in
    λ t. record { name = o.name; kind = o.kind; values = column t } ∷ kept_rows k c os ps t

module _ (p : ℕ → Bool) (l : ℕ) (c : TableColumn) where
  at_pair : (pair : JoinPair) → IsRowOf (length (kept p l)) pair.left
      → value_at (record c { values = map (λ i. get_or c.values i null) (kept p l) }) pair.left ≡ value_at c (over_all p l pair).left
  at_pair pair low = at pair.left low
    where
      at : (row : Option ℕ) → IsRowOf (length (kept p l)) row
          → value_at (record c { values = map (λ i. get_or c.values i null) (kept p l) }) row ≡ value_at c (option_map (λ k. get_or (kept p l) k 0) row)
      at None low = refl
      at (Some k) low = get_or-map (λ i. get_or c.values i null) (kept p l) k 0 null low

  pub kept_column : (qs : List JoinPair) → All (λ (pair : JoinPair). IsRowOf (length (kept p l)) pair.left) qs
      → map (λ (pair : JoinPair). value_at (record c { values = map (λ i. get_or c.values i null) (kept p l) }) pair.left) qs ≡ map (λ (pair : JoinPair). value_at c pair.left) (map (over_all p l) qs)
  kept_column [] low = refl
  kept_column (q ∷ qs) low = λ t. at_pair q (low 0 q (omega arith)) t ∷ kept_column qs (λ k d under. low (suc k) d (omega (arith, under))) t
