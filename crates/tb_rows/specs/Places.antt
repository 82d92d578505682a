-- The first place of each code.
use Rattle.std.specs.Prelude.{◌≡◌, length, All, IfSome, Some}
use Rattle.std.specs.BTreeMap.{get}
use Rattle.std.specs.Ordering.{nat_cmp}
use Rattle.tb_rows.specs.declared.places.CodePlace.{CodePlace}
use Rattle.tb_rows.specs.declared.places.CodePlaces.{CodePlaces}

-- there are so many slots, and what they hold is what is kept for the code
abbrev pub AreRecent : CodePlaces → Type 0
AreRecent p =
    (length p.recent.items ≡ 8192)
    × All (λ (r : CodePlace). IfSome r.place (λ i. get nat_cmp p.kept r.code ≡ Some i))
    p.recent.items
