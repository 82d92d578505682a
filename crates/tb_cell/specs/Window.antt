-- The part of a list that an offset and a length name.
use Rattle.std.specs.Prelude.{ℕ, ◌-◌, min, ℤ, pos, negsuc, ◌+ℤ◌, int_lt, if◌then◌else◌, List, take, drop}

-- a place, clamped into a list of n
abbrev pub clamped_place : ℕ → ℤ → ℕ
clamped_place n (pos p) = min p n
clamped_place n (negsuc p) = 0

-- the place of an offset: a negative one counts from the end of a list of n
abbrev pub place_of : ℕ → ℤ → ℤ
place_of n offset = (if int_lt offset (pos 0) then offset +ℤ pos n else offset)

-- where the part of a list of n starts, and where it stops
abbrev pub part_from : ℕ → ℤ → ℕ
part_from n offset = clamped_place n (place_of n offset)

abbrev pub part_to : ℕ → ℤ → ℕ → ℕ
part_to n offset len = clamped_place n (place_of n offset +ℤ pos len)

-- that part of a list of n
abbrev pub window : {X : Type 0} → ℕ → ℤ → ℕ → List X → List X
window n offset len xs =
    take (part_to n offset len - part_from n offset) (drop (part_from n offset) xs)
