-- An array whose first values were read already.
use Rattle.std.specs.Prelude.{ℕ, List, [], ◌∷◌, Option}
use Rattle.json.specs.Token.{Token}
use Rattle.json.specs.Json.{parse_map, items, value}
use Rattle.serde_json.specs.Data.{Data, array, Items, item}
use Rattle.serde_json.specs.Read.{of_items, converted}

abbrev pub items_after : List Data → Items → Items
items_after [] rest = rest
items_after (d ∷ ds) rest = item d (items_after ds rest)

-- the array of these values and of those that the tokens begin with, which may nest so deep and be so many
abbrev pub array_after : List Data → ℕ → ℕ → List Token → Option (Data × List Token)
array_after ds depth most ts = parse_map (λ rest. array (items_after ds rest))
    (converted of_items (items (value depth) most ts))
