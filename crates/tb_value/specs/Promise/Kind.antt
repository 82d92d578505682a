-- What contracts see of a data type: the type itself, with no memory behind it.
use Rattle.std.specs.Prelude.{ℕ, List, [], ◌∷◌, Option, ◌+◌, suc}
use Rattle.tb_value.specs.declared.dtype.TimeUnit.{TimeUnit}

mutual
  pub data Kind : Type 0 where
    null : Kind
    boolean : Kind
    int8 : Kind
    int16 : Kind
    int32 : Kind
    int64 : Kind
    int128 : Kind
    uint8 : Kind
    uint16 : Kind
    uint32 : Kind
    uint64 : Kind
    string : Kind
    binary : Kind
    date : Kind
    time : Kind
    datetime : TimeUnit → Option (List ℕ) → Kind
    duration : TimeUnit → Kind
    list : Kind → Kind
    struct : Parts → Kind

  -- the fields of a struct, in order: a name and a type each
  pub data Parts : Type 0 where
    end : Parts
    part : List ℕ → Kind → Parts → Parts

abbrev pub Part : Type 0
Part = List ℕ × Kind

abbrev pub parts_of : List Part → Parts
parts_of [] = end
parts_of (p ∷ ps) = part p.0 p.1 (parts_of ps)

-- how many types stand in a type, itself too
abbrev mutual
  pub weight : Kind → ℕ
  weight (list t) = suc (weight t)
  weight (struct ps) = suc (weights ps)
  weight _ = 1

  pub weights : Parts → ℕ
  weights end = 0
  weights (part n t ps) = weight t + weights ps
