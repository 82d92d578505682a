-- The table of common types, line by line.
use Rattle.std.specs.Prelude.{◌≡◌, ◌&&◌, Bool, true, false, List, [], ◌∷◌, Option, Some, None}
use Rattle.std.specs.List.{list_all}
use Rattle.tb_value.specs.Promise.Kind.{Kind, null, boolean, int8, int16, int32, int64, int128, uint8, uint16, uint32, uint64, string, binary, date, time}
use Rattle.tb_value.specs.Promise.SameKind.{same_kind}
use Rattle.tb_supertype.specs.Promise.Supertype.{supertype}

abbrev pub same_answer : Option Kind → Option Kind → Bool
same_answer None None = true
same_answer (Some t) (Some u) = same_kind t u
same_answer _ _ = false

-- the answer for each type of a list with each of another, in either order
abbrev pub gives : Option Kind → List Kind → List Kind → Bool
gives answer ts us = list_all
    (λ t.
    list_all (λ u. same_answer (supertype t u) answer && same_answer (supertype u t) answer) us)
    ts

abbrev pub unsigned_kinds : List Kind
unsigned_kinds = uint8 ∷ uint16 ∷ uint32 ∷ uint64 ∷ []

abbrev pub narrow_kinds : List Kind
narrow_kinds = int8 ∷ int16 ∷ int32 ∷ int64 ∷ []

abbrev pub whole_kinds : List Kind
whole_kinds = int8 ∷ int16 ∷ int32 ∷ int64 ∷ int128 ∷ uint8 ∷ uint16 ∷ uint32 ∷ uint64 ∷ []

-- a type with itself and with Null is itself, and so is one of whole numbers with Boolean
abbrev pub keeps : Kind → Bool
keeps t = gives (Some t) (t ∷ null ∷ []) (t ∷ [])

abbrev pub numbers_truth : Kind → Bool
numbers_truth t = gives (Some t) (boolean ∷ []) (t ∷ [])

abbrev pub Lines : Type 0
Lines = (list_all keeps (boolean ∷ string ∷ binary ∷ date ∷ time ∷ whole_kinds) ≡ true)
    × (gives (Some int16) (int8 ∷ []) (int16 ∷ []) ≡ true)
    × (gives (Some int32) (int8 ∷ int16 ∷ []) (int32 ∷ []) ≡ true)
    × (gives (Some int64) (int8 ∷ int16 ∷ int32 ∷ []) (int64 ∷ []) ≡ true)
    × (gives (Some int128) narrow_kinds (int128 ∷ []) ≡ true)
    × (gives (Some uint16) (uint8 ∷ []) (uint16 ∷ []) ≡ true)
    × (gives (Some uint32) (uint8 ∷ uint16 ∷ []) (uint32 ∷ []) ≡ true)
    × (gives (Some uint64) (uint8 ∷ uint16 ∷ uint32 ∷ []) (uint64 ∷ []) ≡ true)
    × (gives (Some int128) (int128 ∷ []) unsigned_kinds ≡ true)
    × (gives None (uint64 ∷ []) narrow_kinds ≡ true)
    × (gives (Some int64) (uint32 ∷ []) narrow_kinds ≡ true)
    × (gives (Some int32) (uint16 ∷ []) (int8 ∷ int16 ∷ int32 ∷ []) ≡ true)
    × (gives (Some int64) (uint16 ∷ []) (int64 ∷ []) ≡ true)
    × (gives (Some int16) (uint8 ∷ []) (int8 ∷ int16 ∷ []) ≡ true)
    × (gives (Some int32) (uint8 ∷ []) (int32 ∷ []) ≡ true)
    × (gives (Some int64) (uint8 ∷ []) (int64 ∷ []) ≡ true)
    × (list_all numbers_truth whole_kinds ≡ true)
    × (gives (Some string) (string ∷ []) (boolean ∷ whole_kinds) ≡ true)
    × (gives None (binary ∷ []) (boolean ∷ string ∷ date ∷ time ∷ whole_kinds) ≡ true)
    × (gives None (date ∷ time ∷ []) (boolean ∷ string ∷ whole_kinds) ≡ true)
    × (gives None (date ∷ []) (time ∷ []) ≡ true)
