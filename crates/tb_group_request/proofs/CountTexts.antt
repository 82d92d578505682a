-- Counts have no float.
use Rattle.std.proofs.Common.{◌≡◌, ℕ, false, List, [], ◌∷◌, map, refl}
use Rattle.serde_json.specs.View.{items_of}
use Rattle.serde_json.specs.Written.{has_float, items_have_float}
use Rattle.tb_group.specs.Promise.Keys.{GroupedView}
use Rattle.tb_group_request.specs.Promise.Texts.{count_data, grouped_data}

pub counts : (ns : List ℕ) → items_have_float (items_of (map count_data ns)) ≡ false
counts [] = refl
counts (n ∷ ns) = counts ns

pub no_float : (g : GroupedView) → has_float (grouped_data g) ≡ false
no_float g = rw (counts g.groups, counts g.sizes) refl
