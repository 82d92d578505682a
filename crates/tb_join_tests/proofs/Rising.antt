-- Rows that ascend.
use Rattle.std.proofs.Common.{◌≡◌, ℕ, ◌∷◌, [], Option, Some, subst, sym, arith}
use Rattle.std.proofs.lemmas.List.Elements.{All-nil, All-cons}
use Rattle.tb_value.proofs.Ascending.{pairs_from-Ascends_by}
use Rattle.tb_value.specs.declared.sorted.IsSorted.TheVariants.{Ascending}
use Rattle.tb_gather.specs.Ids.{IsRowUpTo, RowsStandInOrder}

rising : RowsStandInOrder Ascending (Some 0 ∷ Some 0 ∷ Some 1 ∷ Some 2 ∷ [])
rising =
    let R = IsRowUpTo in
    let last = All-nil (R (Some 2)) in
    let third = All-cons (R (Some 1)) (Some 2) [] (omega arith) (All-nil (R (Some 1))) in
    let ahead = All-cons (R (Some 0)) (Some 1) (Some 2 ∷ []) (omega arith) (All-cons (R (Some 0)) (Some 2) [] (omega arith) (All-nil (R (Some 0)))) in
    let both = All-cons (R (Some 0)) (Some 0) (Some 1 ∷ Some 2 ∷ []) (omega arith) ahead in
    pairs_from-Ascends_by R (Some 0 ∷ Some 0 ∷ Some 1 ∷ Some 2 ∷ []) (both, (ahead, (third, (last, tt))))

pub rows_ascend : (p q r s : Option ℕ) → p ≡ Some 0 → q ≡ Some 0 → r ≡ Some 1 → s ≡ Some 2 → RowsStandInOrder Ascending (p ∷ q ∷ r ∷ s ∷ [])
rows_ascend p q r s first second third last =
    subst (RowsStandInOrder Ascending) (sym (λ i. first i ∷ second i ∷ third i ∷ last i ∷ [])) rising
