-- What a match says, in words of its own.
use Rattle.std.specs.Prelude.{◌≡◌, ◌≢◌, ◌⊎◌, Bool, true}
use Rattle.tb_value.specs.Promise.Datum.{Datum, null}

-- two fields are present and equal, or both are Null and Nulls match
abbrev pub Agree : Bool → Datum → Datum → Type 0
Agree null_matches a b =
    ((a ≢ null) × (b ≢ null) × (a ≡ b)) ⊎ ((a ≡ null) × (b ≡ null) × (null_matches ≡ true))
