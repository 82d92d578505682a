-- The tests of types, units, zones and fields are their equality.
use Rattle.std.proofs.Common.{◌≡◌, ℕ, true, ◌&&◌, List, Option, Some, None, refl, ap}
use Rattle.std.specs.Bool.{Decides}
use Rattle.std.specs.Cmp.{IsEquivalence, first_so, second_so}
use Rattle.std.proofs.lemmas.Slice.Eq.{bytes_eq-Decides}
use Rattle.tb_value.specs.Promise.Kind.{Kind, Part, Parts, null, boolean, int8, int16, int32, int64, int128, uint8, uint16, uint32, uint64, string, binary, date, time, datetime, duration, list, struct, end, part}
use Rattle.tb_value.specs.Promise.Names.{same_name}
use Rattle.tb_value.specs.Proved.ValueTests.{from_decides}
use Rattle.tb_value.specs.Promise.SameKind.{same_unit, same_zone, same_kind, same_parts, same_part}
use Rattle.tb_value.specs.declared.dtype.TimeUnit.{TimeUnit}
use Rattle.tb_value.specs.declared.dtype.TimeUnit.TheVariants.{Nanoseconds, Microseconds, Milliseconds}

same_unit-Decides : (u v : TimeUnit) → Decides (same_unit u v) (u ≡ v)
same_unit-Decides Nanoseconds Nanoseconds = (λ _. refl, λ _. refl)
same_unit-Decides Microseconds Microseconds = (λ _. refl, λ _. refl)
same_unit-Decides Milliseconds Milliseconds = (λ _. refl, λ _. refl)
same_unit-Decides _ _ = (λ h. absurd (cc), λ e. absurd (cc))

same_zone-Decides : (z y : Option (List ℕ)) → Decides (same_zone z y) (z ≡ y)
same_zone-Decides None None = (λ _. refl, λ _. refl)
same_zone-Decides (Some a) (Some b) = let d = bytes_eq-Decides a b in
    (λ h. ap Some (d.0 h), λ e. d.1 (cc))
same_zone-Decides _ _ = (λ h. absurd (cc), λ e. absurd (cc))

mutual
  pub same_kind-Decides : (t u : Kind) → Decides (same_kind t u) (t ≡ u)
  same_kind-Decides null null = (λ _. refl, λ _. refl)
  same_kind-Decides boolean boolean = (λ _. refl, λ _. refl)
  same_kind-Decides int8 int8 = (λ _. refl, λ _. refl)
  same_kind-Decides int16 int16 = (λ _. refl, λ _. refl)
  same_kind-Decides int32 int32 = (λ _. refl, λ _. refl)
  same_kind-Decides int64 int64 = (λ _. refl, λ _. refl)
  same_kind-Decides int128 int128 = (λ _. refl, λ _. refl)
  same_kind-Decides uint8 uint8 = (λ _. refl, λ _. refl)
  same_kind-Decides uint16 uint16 = (λ _. refl, λ _. refl)
  same_kind-Decides uint32 uint32 = (λ _. refl, λ _. refl)
  same_kind-Decides uint64 uint64 = (λ _. refl, λ _. refl)
  same_kind-Decides string string = (λ _. refl, λ _. refl)
  same_kind-Decides binary binary = (λ _. refl, λ _. refl)
  same_kind-Decides date date = (λ _. refl, λ _. refl)
  same_kind-Decides time time = (λ _. refl, λ _. refl)
  same_kind-Decides (datetime u z) (datetime v y) =
      let d = same_unit-Decides u v in
      let r = same_zone-Decides z y in (
        λ h.
            λ i.
            datetime (d.0 (first_so (same_unit u v) (same_zone z y) h) i)
            (r.0 (second_so (same_unit u v) (same_zone z y) h) i),
        λ e.
            let p : same_unit u v ≡ true = d.1 (cc) in
            let q : same_zone z y ≡ true = r.1 (cc) in rw p q,
      )
  same_kind-Decides (duration u) (duration v) = let d = same_unit-Decides u v in
      (λ h. ap duration (d.0 h), λ e. d.1 (cc))
  same_kind-Decides (list t) (list u) = let d = same_kind-Decides t u in
      (λ h. ap list (d.0 h), λ e. d.1 (cc))
  same_kind-Decides (struct ps) (struct qs) = let d = same_parts-Decides ps qs in
      (λ h. ap struct (d.0 h), λ e. d.1 (cc))
  same_kind-Decides _ _ = (λ h. absurd (cc), λ e. absurd (cc))

  pub same_parts-Decides : (ps qs : Parts) → Decides (same_parts ps qs) (ps ≡ qs)
  same_parts-Decides end end = (λ _. refl, λ _. refl)
  same_parts-Decides (part n t ps) (part m u qs) =
      let names = bytes_eq-Decides n m in
      let types = same_kind-Decides t u in
      let rest = same_parts-Decides ps qs in (
        λ h.
            let both = first_so (same_name n m && same_kind t u) (same_parts ps qs) h in
            let name = names.0 (first_so (same_name n m) (same_kind t u) both) in
            let type = types.0 (second_so (same_name n m) (same_kind t u) both) in
            let others = rest.0 (second_so (same_name n m && same_kind t u) (same_parts ps qs) h) in
            λ i. part (name i) (type i) (others i),
        λ e.
            let p : same_name n m ≡ true = names.1 (cc) in
            let q : same_kind t u ≡ true = types.1 (cc) in
            let r : same_parts ps qs ≡ true = rest.1 (cc) in
            rw (p, q) r,
      )
  same_parts-Decides _ _ = (λ h. absurd (cc), λ e. absurd (cc))

pub same_kind_equiv : IsEquivalence same_kind
same_kind_equiv = from_decides same_kind same_kind-Decides

pub same_parts_equiv : IsEquivalence same_parts
same_parts_equiv = from_decides same_parts same_parts-Decides

pub same_part-Decides : (p q : Part) → Decides (same_part p q) (p ≡ q)
same_part-Decides p q =
    let names = bytes_eq-Decides p.0 q.0 in
    let types = same_kind-Decides p.1 q.1 in (
      λ h i.
          (names.0 (first_so (same_name p.0 q.0) (same_kind p.1 q.1) h) i, types.0 (second_so (same_name p.0 q.0) (same_kind p.1 q.1) h) i),
      λ e. let a : same_name p.0 q.0 ≡ true = names.1 (ap (λ (r : Part). r.0) e) in
          let b : same_kind p.1 q.1 ≡ true = types.1 (ap (λ (r : Part). r.1) e) in rw (a, b) refl,
    )

pub same_part_equiv : IsEquivalence same_part
same_part_equiv = from_decides same_part same_part-Decides
