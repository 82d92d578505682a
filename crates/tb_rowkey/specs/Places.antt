-- Places in a buffer.
use Rattle.std.specs.Prelude.{ℕ, List}
use Rattle.tb_rowkey.specs.declared.places.Places.{Places}
use Rattle.tb_rowkey.specs.declared.places.Places.TheVariants.{Even, Uneven}

-- the places, even or not
abbrev pub places_in : Places → List ℕ
places_in (Even p) = p
places_in (Uneven p) = p
