-- Lists of places.
use Rattle.std.specs.Prelude.{ℕ, List}
use Rattle.tb_rowkey.specs.declared.place_list.PlaceList.{PlaceList}
use Rattle.tb_rowkey.specs.declared.place_list.PlaceList.TheVariants.{Narrow, Wide}

-- the places of a list, in 32 bits each or in 64
abbrev pub listed_places : PlaceList → List ℕ
listed_places (Narrow v) = v.items
listed_places (Wide v) = v.items
