-- How the logic stores a type.
use Rattle.std.specs.Prelude.{◌≡◌, ℕ, List, [], ◌∷◌, Option, Some, None, ◌==◌, if◌then◌else◌, refl}
use Rattle.std.proofs.Common.{ap, sym, ◌∙◌}
use Rattle.std.specs.Coded.{Coded}
use base.Stored.{Gv, gnil, gnum, gcons}
use Rattle.tb_value.specs.declared.dtype.TimeUnit.{TimeUnit}
use Rattle.tb_value.specs.declared.dtype.TimeUnit.TheVariants.{Nanoseconds, Microseconds, Milliseconds}
use Rattle.tb_value.specs.Promise.Kind.{Kind, Parts, null, boolean, int8, int16, int32, int64, int128, uint8, uint16, uint32, uint64, string, binary, date, time, datetime, duration, list, struct, end, part}

abbrev text_to : List ℕ → Gv
text_to [] = gnil
text_to (x ∷ xs) = gcons (gnum x) (text_to xs)

abbrev text_from : Gv → List ℕ
text_from (gcons (gnum x) r) = x ∷ text_from r
text_from _ = []

text_back : (xs : List ℕ) → text_from (text_to xs) ≡ xs
text_back [] = refl
text_back (x ∷ xs) = ap (λ ys. x ∷ ys) (text_back xs)

abbrev unit_to : TimeUnit → Gv
unit_to Nanoseconds = gnum 0
unit_to Microseconds = gnum 1
unit_to Milliseconds = gnum 2

abbrev unit_from : Gv → TimeUnit
unit_from (gnum n) = if n == 0 then Nanoseconds else (if n == 1 then Microseconds else Milliseconds)
unit_from _ = Nanoseconds

unit_back : (u : TimeUnit) → unit_from (unit_to u) ≡ u
unit_back Nanoseconds = refl
unit_back Microseconds = refl
unit_back Milliseconds = refl

abbrev zone_to : Option (List ℕ) → Gv
zone_to None = gnil
zone_to (Some z) = gcons gnil (text_to z)

abbrev zone_from : Gv → Option (List ℕ)
zone_from (gcons _ r) = Some (text_from r)
zone_from _ = None

zone_back : (z : Option (List ℕ)) → zone_from (zone_to z) ≡ z
zone_back None = refl
zone_back (Some z) = ap (λ t. Some t) (text_back z)

abbrev simple_from : ℕ → Kind
simple_from n =
    if n == 0
    then null
    else if n == 1
    then boolean
    else if n == 2
    then int8
    else if n == 3
    then int16
    else if n == 4
    then int32 else
    if n == 5
    then int64
    else if n == 6
    then int128
    else if n == 7
    then uint8
    else if n == 8
    then uint16
    else if n == 9
    then uint32 else
    if n == 10
    then uint64
    else if n == 11
    then string
    else if n == 12
    then binary
    else if n == 13
    then date
    else time

abbrev mutual
  kind_to : Kind → Gv
  kind_to null = gnum 0
  kind_to boolean = gnum 1
  kind_to int8 = gnum 2
  kind_to int16 = gnum 3
  kind_to int32 = gnum 4
  kind_to int64 = gnum 5
  kind_to int128 = gnum 6
  kind_to uint8 = gnum 7
  kind_to uint16 = gnum 8
  kind_to uint32 = gnum 9
  kind_to uint64 = gnum 10
  kind_to string = gnum 11
  kind_to binary = gnum 12
  kind_to date = gnum 13
  kind_to time = gnum 14
  kind_to (datetime u z) = gcons gnil (gcons (unit_to u) (zone_to z))
  kind_to (duration u) = gcons (gcons gnil gnil) (unit_to u)
  kind_to (list t) = gcons (gcons (gcons gnil gnil) gnil) (kind_to t)
  kind_to (struct ps) = gcons (gcons gnil (gcons gnil gnil)) (parts_to ps)

  parts_to : Parts → Gv
  parts_to end = gnil
  parts_to (part n t ps) = gcons (text_to n) (gcons (kind_to t) (parts_to ps))

abbrev mutual
  kind_from : Gv → Kind
  kind_from gnil = null
  kind_from (gnum n) = simple_from n
  kind_from (gcons gnil (gcons u z)) = datetime (unit_from u) (zone_from z)
  kind_from (gcons (gcons gnil gnil) u) = duration (unit_from u)
  kind_from (gcons (gcons (gcons _ _) _) t) = list (kind_from t)
  kind_from (gcons (gcons gnil (gcons _ _)) ps) = struct (parts_from ps)
  kind_from _ = null

  parts_from : Gv → Parts
  parts_from (gcons n (gcons t ps)) = part (text_from n) (kind_from t) (parts_from ps)
  parts_from _ = end

mutual
  kind_back : (t : Kind) → kind_from (kind_to t) ≡ t
  kind_back null = refl
  kind_back boolean = refl
  kind_back int8 = refl
  kind_back int16 = refl
  kind_back int32 = refl
  kind_back int64 = refl
  kind_back int128 = refl
  kind_back uint8 = refl
  kind_back uint16 = refl
  kind_back uint32 = refl
  kind_back uint64 = refl
  kind_back string = refl
  kind_back binary = refl
  kind_back date = refl
  kind_back time = refl
  kind_back (datetime u z) = λ i. datetime (unit_back u i) (zone_back z i)
  kind_back (duration u) = λ i. duration (unit_back u i)
  kind_back (list t) = λ i. list (kind_back t i)
  kind_back (struct ps) = λ i. struct (parts_back ps i)

  parts_back : (ps : Parts) → parts_from (parts_to ps) ≡ ps
  parts_back end = refl
  parts_back (part n t ps) = λ i. part (text_back n i) (kind_back t i) (parts_back ps i)

pub kind_inj : (a b : Kind) → kind_to a ≡ kind_to b → a ≡ b
kind_inj a b p = sym (kind_back a) ∙ (ap kind_from p ∙ kind_back b)

abbrev pub coded_kind : Coded Kind
coded_kind = record { code = kind_to; inj = kind_inj }
