-- Types and values have no float.
use Rattle.std.proofs.Common.{◌≡◌, ℕ, ℤ, pos, negsuc, List, Bool, true, false, cond, ◌||◌, Option, Some, None, refl}
use Rattle.std.specs.Fmt.{signed_decimal}
use Rattle.serde_json.specs.Data.{number, string}
use Rattle.serde_json.specs.Find.{of_integer}
use Rattle.serde_json.specs.Written.{has_float, items_have_float}
use Rattle.tb_value.specs.Promise.Datum as value
use Rattle.tb_value.specs.Promise.Datum.{Datum}
use Rattle.tb_value.specs.Promise.Kind as kind
use Rattle.tb_value.specs.Promise.Kind.{Kind, Parts}
use Rattle.tb_json.specs.Promise.Text.{zone_data, kind_data, parts_data, is_wide, inner_kind, fields_in, value_data, items_data, fields_data}

or_false : (a b : Bool) → a ≡ false → b ≡ false → (a || b) ≡ false
or_false true b p q = p
or_false false b p q = q

plain_zone : (z : Option (List ℕ)) → has_float (zone_data z) ≡ false
plain_zone None = refl
plain_zone (Some z) = refl

mutual
  pub plain_kind : (t : Kind) → has_float (kind_data t) ≡ false
  plain_kind kind.null = refl
  plain_kind kind.boolean = refl
  plain_kind kind.int8 = refl
  plain_kind kind.int16 = refl
  plain_kind kind.int32 = refl
  plain_kind kind.int64 = refl
  plain_kind kind.int128 = refl
  plain_kind kind.uint8 = refl
  plain_kind kind.uint16 = refl
  plain_kind kind.uint32 = refl
  plain_kind kind.uint64 = refl
  plain_kind kind.string = refl
  plain_kind kind.binary = refl
  plain_kind kind.date = refl
  plain_kind kind.time = refl
  plain_kind (kind.datetime u z) = or_false (has_float (zone_data z)) false (plain_zone z) refl
  plain_kind (kind.duration u) = refl
  plain_kind (kind.list t) = or_false (has_float (kind_data t)) false (plain_kind t) refl
  plain_kind (kind.struct ps) = or_false (items_have_float (parts_data ps)) false (plain_parts ps) refl

  plain_parts : (ps : Parts) → items_have_float (parts_data ps) ≡ false
  plain_parts kind.end = refl
  plain_parts (kind.part n t ps) = or_false (has_float (kind_data t) || false) (items_have_float (parts_data ps)) (or_false (has_float (kind_data t)) false (plain_kind t) refl) (plain_parts ps)

plain_number : (b : Bool) (z : ℤ) → has_float (cond b (string (signed_decimal z)) (number (of_integer z))) ≡ false
plain_number true z = refl
plain_number false (pos n) = refl
plain_number false (negsuc n) = refl

mutual
  pub plain_value : (t : Kind) (v : Datum) → has_float (value_data t v) ≡ false
  plain_value t value.null = refl
  plain_value t (value.boolean b) = refl
  plain_value t (value.int z) = plain_number (is_wide t) z
  plain_value t (value.string s) = refl
  plain_value t (value.binary s) = refl
  plain_value t (value.list vs) = plain_items (inner_kind t) vs
  plain_value t (value.struct vs) = plain_fields (fields_in t) vs

  plain_items : (t : Kind) (vs : value.Items) → items_have_float (items_data t vs) ≡ false
  plain_items t value.end = refl
  plain_items t (value.more v vs) = or_false (has_float (value_data t v)) (items_have_float (items_data t vs)) (plain_value t v) (plain_items t vs)

  plain_fields : (ps : Parts) (vs : value.Items) → items_have_float (fields_data ps vs) ≡ false
  plain_fields ps value.end = refl
  plain_fields kind.end (value.more v vs) = refl
  plain_fields (kind.part n t ps) (value.more v vs) = or_false (has_float (value_data t v)) (items_have_float (fields_data ps vs)) (plain_value t v) (plain_fields ps vs)
