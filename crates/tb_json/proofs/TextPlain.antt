-- The JSON value of a table has no float, whole numbers of 64 bits, and members in order.
use Rattle.std.proofs.Common.{ℕ, ℤ, pos, negsuc, List, [], ◌∷◌, map, Option, Some, None, refl, arith}
use Rattle.std.proofs.lemmas.Int.{ints}
use Rattle.std.proofs.lemmas.List.Elements.{All-head, All-tail}
use Rattle.std.specs.List.{All}
use Rattle.serde_json.specs.Find.{of_integer}
use Rattle.serde_json.specs.View.{items_of}
use Rattle.tb_value.specs.Promise.Datum as value
use Rattle.tb_value.specs.Promise.Datum.{Datum}
use Rattle.tb_value.specs.Promise.Kind as kind
use Rattle.tb_value.specs.Promise.Kind.{Kind, Parts}
use Rattle.tb_value.specs.Promise.Typed.{HasType, AreOf, AreEachOf}
use Rattle.tb_frame.specs.Promise.Table.{Table, IsTyped}
use Rattle.tb_json.specs.Promise.Text.{zone_data, kind_data, parts_data, inner_kind, fields_in, number_data, value_data, items_data, fields_data, column_data, table_data}
use Rattle.tb_json.specs.Writable.{IsWritable}
use Rattle.tb_json.proofs.Narrow.{IsNarrow, narrow}
use Rattle.tb_json.proofs.ReadBack.{IsKept, IsPlain, ArePlain}
use Rattle.tb_json.proofs.ValuesBack.{list_of, struct_of}

IsPlain-zone : (z : Option (List ℕ)) → IsPlain (zone_data z)
IsPlain-zone None = tt
IsPlain-zone (Some z) = tt

mutual
  IsPlain-kind : (t : Kind) → IsPlain (kind_data t)
  IsPlain-kind (kind.datetime u z) = ((tt, (IsPlain-zone z, tt)), refl)
  IsPlain-kind (kind.duration u) = ((tt, tt), refl)
  IsPlain-kind (kind.list t) = ((IsPlain-kind t, tt), refl)
  IsPlain-kind (kind.struct ps) = ((ArePlain-parts ps, tt), refl)
  IsPlain-kind _ = tt

  ArePlain-parts : (ps : Parts) → ArePlain (parts_data ps)
  ArePlain-parts kind.end = tt
  ArePlain-parts (kind.part n t ps) = (((tt, (IsPlain-kind t, tt)), refl), ArePlain-parts ps)

IsKept-narrow : (z : ℤ) → IsNarrow z → IsKept (of_integer z)
IsKept-narrow (pos n) h = omega (arith, ints)
IsKept-narrow (negsuc n) h = omega (arith, ints)

IsPlain-number : (t : Kind) (z : ℤ) → HasType t (value.int z) → IsPlain (number_data t z)
IsPlain-number kind.int128 z h = tt
IsPlain-number t z h = IsKept-narrow z (narrow t z refl h)

mutual
  IsPlain-value : (t : Kind) (v : Datum) → HasType t v → IsPlain (value_data t v)
  IsPlain-value t value.null h = tt
  IsPlain-value t (value.boolean b) h = tt
  IsPlain-value t (value.int z) h = IsPlain-number t z h
  IsPlain-value t (value.string s) h = tt
  IsPlain-value t (value.binary s) h = tt
  IsPlain-value t (value.list vs) h = ArePlain-items (inner_kind t) vs (list_of t (λ u. AreOf u vs) h).1
  IsPlain-value t (value.struct vs) h = ArePlain-fields (fields_in t) vs (struct_of t (λ ps. AreEachOf ps vs) h).1

  ArePlain-items : (t : Kind) (vs : value.Items) → AreOf t vs → ArePlain (items_data t vs)
  ArePlain-items t value.end h = tt
  ArePlain-items t (value.more v vs) h = (IsPlain-value t v h.0, ArePlain-items t vs h.1)

  ArePlain-fields : (ps : Parts) (vs : value.Items) → AreEachOf ps vs → ArePlain (fields_data ps vs)
  ArePlain-fields ps value.end h = tt
  ArePlain-fields kind.end (value.more v vs) h = tt
  ArePlain-fields (kind.part n t ps) (value.more v vs) h = (IsPlain-value t v h.0, ArePlain-fields ps vs h.1)

ArePlain-values : (t : Kind) (vs : List Datum) → All (HasType t) vs → ArePlain (items_of (map (value_data t) vs))
ArePlain-values t [] h = tt
ArePlain-values t (v ∷ vs) h = (IsPlain-value t v (All-head (HasType t) v vs h), ArePlain-values t vs (All-tail (HasType t) v vs h))

ArePlain-columns : (cs : Table) → All IsTyped cs → ArePlain (items_of (map column_data cs))
ArePlain-columns [] h = tt
ArePlain-columns (c ∷ cs) h =
    (((tt, (IsPlain-kind c.kind, (ArePlain-values c.kind c.values (All-head IsTyped c cs h), tt))), refl), ArePlain-columns cs (All-tail IsTyped c cs h))

pub IsPlain-table_data : (t : Table) → IsWritable t → IsPlain (table_data t)
IsPlain-table_data t h = ((ArePlain-columns t h.typed, (h.short, tt)), refl)
