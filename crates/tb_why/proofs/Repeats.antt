-- The first name that stands before it too.
use Rattle.std.proofs.Common.{◌≡◌, ℕ, zero, suc, ◌<◌, List, [], ◌∷◌, map, length, get_or, Bool, true, false, not, Option, Some, codes, refl, ap, subst, arith}
use Rattle.std.specs.Prelude.{option_and_then}
use Rattle.std.specs.List.{find}
use Rattle.std.proofs.lemmas.List.{length-map}
use Rattle.serde_json.specs.Data.{Data}
use Rattle.tb_value.specs.Promise.Names.{Name}
use Rattle.tb_value.specs.Promise.Pairs.{row_numbers}
use Rattle.tb_frame.specs.Promise.Refusal.{repeats}
use Rattle.tb_why.specs.declared.spot.Expected.TheVariants.{OtherName}
use Rattle.tb_why.specs.declared.spot.Step.TheVariants.{Member, Index}
use Rattle.tb_why.specs.Columns.{name_at, name_spot}
use Rattle.tb_why.specs.Spots.{Spot, spot_here, under}

-- within a list no default is asked for
pub within : (names : List Name) (i : ℕ) (n m : Name) → i < length names → get_or names i n ≡ get_or names i m
within [] i n m low = absurd (omega arith)
within (x ∷ names) zero n m low = refl
within (x ∷ names) (suc i) n m low = within names i n m (omega arith)

pub not_added : (b : Bool) → false ≡ not b → b ≡ true
not_added true h = refl
not_added false h = absurd (cc)

abbrev repeat_at : ℕ → Option Spot
repeat_at i = under (Index i) (under (Member (codes "name")) (spot_here OtherName))

pub name_spot_is : (ds : List Data) (names : List Name) (i : ℕ) → names ≡ map name_at ds → Some i ≡ find (repeats names) (row_numbers (length names)) → repeat_at i ≡ name_spot ds
name_spot_is ds names i is found =
    let of_all : Some i ≡ find (repeats (map name_at ds)) (row_numbers (length (map name_at ds))) = subst (λ (ns : List Name). Some i ≡ find (repeats ns) (row_numbers (length ns))) is found in
    let of_columns : Some i ≡ find (repeats (map name_at ds)) (row_numbers (length ds)) = subst (λ (k : ℕ). Some i ≡ find (repeats (map name_at ds)) (row_numbers k)) (length-map ds name_at) of_all in
    ap (option_and_then repeat_at) of_columns
