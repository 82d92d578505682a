-- The type that is read of a type as it is written is that type.
use Rattle.std.proofs.Common.{◌≡◌, Option, Some, None, option_map, option_and_then, refl, ap, ◌∙◌}
use Rattle.serde_json.specs.Data.{string}
use Rattle.tb_value.specs.Promise.Kind as kind
use Rattle.tb_value.specs.Promise.Kind.{Kind, Part, Parts}
use Rattle.tb_value.specs.Promise.Names.{Name}
use Rattle.tb_value.specs.declared.dtype.TimeUnit.{TimeUnit}
use Rattle.tb_value.specs.declared.dtype.TimeUnit.TheVariants.{Nanoseconds, Microseconds, Milliseconds}
use Rattle.tb_json.specs.Promise.Text.{unit_word, zone_data, kind_data, parts_data}
use Rattle.tb_json.specs.Promise.Kinds.{zone_in, datetime_in, duration_in, field_named, kind_in, each_part}

zone_back : (z : Option Name) → zone_in (zone_data z) ≡ Some z
zone_back None = refl
zone_back (Some n) = refl

datetime_back : (u : TimeUnit) (z : Option Name) → datetime_in (string (unit_word u)) (zone_data z) ≡ Some (kind.datetime u z)
datetime_back Nanoseconds z = ap (option_and_then (λ y. Some (kind.datetime Nanoseconds y))) (zone_back z)
datetime_back Microseconds z = ap (option_and_then (λ y. Some (kind.datetime Microseconds y))) (zone_back z)
datetime_back Milliseconds z = ap (option_and_then (λ y. Some (kind.datetime Milliseconds y))) (zone_back z)

duration_back : (u : TimeUnit) → duration_in (string (unit_word u)) ≡ Some (kind.duration u)
duration_back Nanoseconds = refl
duration_back Microseconds = refl
duration_back Milliseconds = refl

mutual
  pub kind_in-kind_data : (t : Kind) → kind_in (kind_data t) ≡ Some t
  kind_in-kind_data (kind.datetime u z) = datetime_back u z
  kind_in-kind_data (kind.duration u) = duration_back u
  kind_in-kind_data (kind.list t) = ap (option_map kind.list) (kind_in-kind_data t)
  kind_in-kind_data (kind.struct ps) = ap (option_map kind.struct) (each_part-parts_data ps)
  kind_in-kind_data _ = refl

  pub each_part-parts_data : (ps : Parts) → each_part (parts_data ps) ≡ Some ps
  each_part-parts_data kind.end = refl
  each_part-parts_data (kind.part n t ps) =
      ap (λ k. option_and_then (λ (p : Part). option_map (kind.part p.0 p.1) (each_part (parts_data ps))) (field_named k (string n))) (kind_in-kind_data t) ∙ ap (option_map (kind.part n t)) (each_part-parts_data ps)
