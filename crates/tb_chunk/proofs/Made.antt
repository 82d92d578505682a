-- Columns of which is said all but where their texts stand.
use Rattle.std.proofs.Common.{◌≡◌, ◌∙◌, ℕ, List, ap, sym}
use Rattle.tb_value.specs.Promise.Datum.{Datum}
use Rattle.tb_value.specs.Promise.Kind.{Kind}
use Rattle.tb_value.specs.declared.sorted.IsSorted.{IsSorted}
use Rattle.tb_chunk.specs.Promise.Col.{Col}
use Rattle.tb_chunk.specs.Made.{IsOf}
use Rattle.tb_view.specs.Promise.ViewArrays.{ViewArray}

-- wherever they stand
pub is_of : (n : List ℕ) (t : Kind) (cs : List (List Datum)) (f : IsSorted) (rs : List ViewArray) (c : Col) → c ≡ record { name = n; kind = t; chunks = cs; flag = f; view_arrays = rs } → IsOf n t cs f c
is_of n t cs f rs c e =
    let runs = sym (ap (λ (d : Col). d.view_arrays) e) in
    e ∙ (λ i. record { name = n; kind = t; chunks = cs; flag = f; view_arrays = runs i })
