-- The members of an object that are at fault.
use Rattle.std.specs.Prelude.{ℕ, List, [], ◌∷◌, Bool, false, ◌||◌, if◌then◌else◌, Option, Some, None, is_some, option_and_then}
use Rattle.serde_json.specs.Data.{Data, null, boolean, number, string, array, object, Members, no_members, member}
use Rattle.serde_json.specs.Find.{get}
use Rattle.tb_value.specs.Promise.Names.{Name}
use Rattle.tb_json.specs.Promise.Lists.{is_among}
use Rattle.tb_request.specs.declared.known.Form.TheVariants as form
use Rattle.tb_request.specs.Promise.HasForm.{has_form}
use Rattle.tb_request.specs.Promise.Members.{Known, names_of}
use Rattle.tb_why.specs.declared.spot.Expected.TheVariants as expected
use Rattle.tb_why.specs.declared.spot.Step.TheVariants.{Member}
use Rattle.tb_why.specs.Spots.{Spot, spot_here, unless, under, or_else}

abbrev pub fault_of : Known → Option Data → Option Spot
fault_of k None = if k.needed then spot_here (expected.Wanting k.form) else None
fault_of k (Some d) = unless (has_form k.form d) (expected.Form k.form)

abbrev pub each_known : List Known → Data → Option Spot
each_known [] d = None
each_known (k ∷ ks) d =
    or_else (under (Member k.name) (fault_of k (get k.name d))) (each_known ks d)

-- the first member of another name, in the order of their names
abbrev pub unknown_among : List Name → Members → Option Name
unknown_among names no_members = None
unknown_among names (member k d ms) = if is_among k names then unknown_among names ms else Some k

abbrev pub unknown_in : List Name → Data → Option Name
unknown_in names null = None
unknown_in names (boolean b) = None
unknown_in names (number n) = None
unknown_in names (string s) = None
unknown_in names (array ds) = None
unknown_in names (object ms) = unknown_among names ms

abbrev pub unknown_spot : List Name → Data → Option Spot
unknown_spot names d =
    option_and_then (λ k. under (Member k) (spot_here expected.NoMember)) (unknown_in names d)

-- the value where it is no object, or an unknown member, or the first of the known ones that is wanting or of another form
abbrev pub members_spot : List Known → Data → Option Spot
members_spot ks d =
    or_else (unless (has_form form.Object d) (expected.Form form.Object))
    (or_else (unknown_spot (names_of ks) d) (each_known ks d))

-- whether it has any of these
abbrev pub has_any : List Known → Data → Bool
has_any [] d = false
has_any (k ∷ ks) d = is_some (get k.name d) || has_any ks d
