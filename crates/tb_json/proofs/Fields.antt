-- The fields of a struct, as a list.
use Rattle.std.proofs.Common.{◌≡◌, List, [], ◌∷◌, map, codes, refl, ap}
use Rattle.serde_json.specs.Data.{Data, object, member, no_members, string, item}
use Rattle.serde_json.specs.View.{items_of}
use Rattle.tb_value.specs.Promise.Kind.{Part, parts_of}
use Rattle.tb_json.specs.Promise.Text.{kind_data, parts_data}

abbrev pub field_data : Part → Data
field_data p = object (member (codes "name") (string p.0) (member (codes "type") (kind_data p.1) no_members))

pub parts_data-map : (ps : List Part) → items_of (map field_data ps) ≡ parts_data (parts_of ps)
parts_data-map [] = refl
parts_data-map (p ∷ ps) = ap (item (field_data p)) (parts_data-map ps)
