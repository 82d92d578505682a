-- The fields of a struct type, as a list.
use Rattle.std.proofs.Common.{◌≡◌, List, [], ◌∷◌, Option, Some, None, option_map, option_and_then, refl, ap}
use Rattle.serde_json.specs.Data.{Data}
use Rattle.serde_json.specs.View.{items_of}
use Rattle.tb_value.specs.Promise.Kind as kind
use Rattle.tb_value.specs.Promise.Kind.{Part, Parts, parts_of}
use Rattle.tb_json.specs.Promise.Lists.{each}
use Rattle.tb_json.specs.Promise.Kinds.{part_in, each_part}

one_field : (o : Option Part) (r : Option (List Part)) (q : Option Parts) → q ≡ option_map parts_of r
    → option_and_then (λ p. option_map (kind.part p.0 p.1) q) o ≡ option_map parts_of (option_and_then (λ p. option_map (λ ps. p ∷ ps) r) o)
one_field None r q e = refl
one_field (Some p) None q e = ap (option_map (kind.part p.0 p.1)) e
one_field (Some p) (Some ps) q e = ap (option_map (kind.part p.0 p.1)) e

pub each_part-each : (ds : List Data) → each_part (items_of ds) ≡ option_map parts_of (each part_in ds)
each_part-each [] = refl
each_part-each (d ∷ ds) = one_field (part_in d) (each part_in ds) (each_part (items_of ds)) (each_part-each ds)
