-- Columns of nulls alone.
use Rattle.std.proofs.Common.{◌≡◌, ℕ, ℤ, suc, List, [], ◌∷◌, length, map, replicate, Bool, true, false, cond, ◌&&◌, Option, Some, None, option_map, option_and_then, refl, sym, ap, ◌∙◌}
use Rattle.std.specs.Prelude.{is_some}
use Rattle.std.specs.List.{list_all}
use Rattle.serde_json.specs.Data.{Data, null, boolean, number, string, array, object}
use Rattle.serde_json.specs.Find.{as_null, as_integer}
use Rattle.tb_value.specs.Promise.Datum as value
use Rattle.tb_value.specs.Promise.Datum.{Datum}
use Rattle.tb_value.specs.Promise.Kind as kind
use Rattle.tb_json.specs.Promise.Lists.{each}
use Rattle.tb_json.specs.Promise.Cells.{ranged_number, cell_in}

no_number : (o : Option ℤ) → option_and_then (ranged_number kind.null) o ≡ None
no_number None = refl
no_number (Some z) = refl

pub only_null : (d : Data) → cell_in kind.null d ≡ cond (is_some (as_null d)) (Some value.null) None
only_null null = refl
only_null (boolean b) = refl
only_null (number n) = no_number (as_integer n)
only_null (string s) = refl
only_null (array ds) = refl
only_null (object ms) = refl

one_more : (b all : Bool) (n : ℕ) (o : Option Datum) (r : Option (List Datum)) → o ≡ cond b (Some value.null) None → cond all (Some (replicate n value.null)) None ≡ r
    → cond (b && all) (Some (replicate (suc n) value.null)) None ≡ option_and_then (λ v. option_map (λ vs. v ∷ vs) r) o
one_more true all n o r e rest = more all rest ∙ sym (ap (option_and_then (λ v. option_map (λ vs. v ∷ vs) r)) e) where
  more : (all : Bool) → cond all (Some (replicate n value.null)) None ≡ r → cond all (Some (replicate (suc n) value.null)) None ≡ option_map (λ vs. value.null ∷ vs) r
  more true k = ap (option_map (λ vs. value.null ∷ vs)) k
  more false k = ap (option_map (λ vs. value.null ∷ vs)) k
one_more false all n o r e rest = sym (ap (option_and_then (λ v. option_map (λ vs. v ∷ vs) r)) e)

-- as many nulls as there are values, where each is null
pub nulls-each : (ds : List Data) → cond (list_all (λ d. is_some (as_null d)) ds) (Some (replicate (length ds) value.null)) None ≡ each (cell_in kind.null) ds
nulls-each [] = refl
nulls-each (d ∷ ds) =
    one_more (is_some (as_null d)) (list_all (λ e. is_some (as_null e)) ds) (length ds) (cell_in kind.null d) (each (cell_in kind.null) ds) (only_null d) (nulls-each ds)
