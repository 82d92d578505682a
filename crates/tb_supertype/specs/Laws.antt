-- The laws over common types.
use Rattle.std.specs.Prelude.{◌≡◌, Some}
use Rattle.tb_value.specs.Promise.Datum.{Datum}
use Rattle.tb_value.specs.Promise.Kind.{Kind}
use Rattle.tb_value.specs.Promise.Typed.{HasType}
use Rattle.tb_supertype.specs.Promise.Cast.{cast}
use Rattle.tb_supertype.specs.Promise.Supertype.{supertype}

-- the order of two types doesn't matter
abbrev pub Symmetric : Type 0
Symmetric = (t u : Kind) → supertype t u ≡ supertype u t

-- a value that is of the first type when cast to it is of the common type when cast to that
abbrev pub CastsOn : Type 0
CastsOn = (t u s : Kind) → supertype t u ≡ Some s → (v : Datum) → HasType t (cast t v)
    → HasType s (cast s v)

-- values of either type, cast to the common type, are of it
abbrev pub CastTyped : Type 0
CastTyped = (t u s : Kind) → supertype t u ≡ Some s → (v : Datum)
    → (HasType t v → HasType s (cast s v)) × (HasType u v → HasType s (cast s v))
