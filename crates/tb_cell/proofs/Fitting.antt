-- A value of a type fits a chunk of its physical type.
use Rattle.std.proofs.Common.{◌≡◌, List, refl, ap, subst}
use Rattle.std.specs.List.{All}
use Rattle.std.proofs.lemmas.List.Elements.{All-weaker}
use Rattle.tb_value.specs.Promise.Datum.{Datum}
use Rattle.tb_value.specs.Promise.Datum as value
use Rattle.tb_value.specs.Promise.Kind.{Kind}
use Rattle.tb_value.specs.Promise.Kind as kind
use Rattle.tb_value.specs.Promise.Typed.{HasType, IsListOf, IsStructOf, ends}
use Rattle.tb_cell.specs.Physical.{physical}
use Rattle.tb_cell.specs.Fits.{Fits}

ends-physical : (t : Kind) → ends (physical t) ≡ ends t
ends-physical kind.null = refl
ends-physical kind.boolean = refl
ends-physical kind.int8 = refl
ends-physical kind.int16 = refl
ends-physical kind.int32 = refl
ends-physical kind.int64 = refl
ends-physical kind.int128 = refl
ends-physical kind.uint8 = refl
ends-physical kind.uint16 = refl
ends-physical kind.uint32 = refl
ends-physical kind.uint64 = refl
ends-physical kind.string = refl
ends-physical kind.binary = refl
ends-physical kind.date = refl
ends-physical kind.time = refl
ends-physical (kind.datetime u z) = refl
ends-physical (kind.duration u) = refl
ends-physical (kind.list t) = refl
ends-physical (kind.struct ps) = refl

listed : (P : Kind → Type 0) (t : Kind) → IsListOf t P → IsListOf (physical t) (λ _. Unit {0})
listed P kind.null h = absurd h
listed P kind.boolean h = absurd h
listed P kind.int8 h = absurd h
listed P kind.int16 h = absurd h
listed P kind.int32 h = absurd h
listed P kind.int64 h = absurd h
listed P kind.int128 h = absurd h
listed P kind.uint8 h = absurd h
listed P kind.uint16 h = absurd h
listed P kind.uint32 h = absurd h
listed P kind.uint64 h = absurd h
listed P kind.string h = absurd h
listed P kind.binary h = absurd h
listed P kind.date h = absurd h
listed P kind.time h = absurd h
listed P (kind.datetime u z) h = absurd h
listed P (kind.duration u) h = absurd h
listed P (kind.list t) h = tt
listed P (kind.struct ps) h = absurd h

structured : (P : kind.Parts → Type 0) (t : Kind) → IsStructOf t P → IsStructOf (physical t) (λ _. Unit {0})
structured P kind.null h = absurd h
structured P kind.boolean h = absurd h
structured P kind.int8 h = absurd h
structured P kind.int16 h = absurd h
structured P kind.int32 h = absurd h
structured P kind.int64 h = absurd h
structured P kind.int128 h = absurd h
structured P kind.uint8 h = absurd h
structured P kind.uint16 h = absurd h
structured P kind.uint32 h = absurd h
structured P kind.uint64 h = absurd h
structured P kind.string h = absurd h
structured P kind.binary h = absurd h
structured P kind.date h = absurd h
structured P kind.time h = absurd h
structured P (kind.datetime u z) h = absurd h
structured P (kind.duration u) h = absurd h
structured P (kind.list t) h = absurd h
structured P (kind.struct ps) h = tt

pub fits : (t : Kind) (v : Datum) → HasType t v → Fits (physical t) v
fits t value.null h = tt
fits t (value.boolean b) h = ap physical h
fits t (value.int i) h = rw (ends-physical t) h
fits t (value.string s) h = (ap physical h.0, h.1, h.2)
fits t (value.binary s) h = (ap physical h.0, h.1, h.2)
fits t (value.list vs) h = listed _ t h
fits t (value.struct vs) h = structured _ t h

-- values of a type that is stored as k fit a chunk of k
pub fits_stored : (t k : Kind) (vs : List Datum) → physical t ≡ k → All (HasType t) vs → All (Fits k) vs
fits_stored t k vs e all = subst (λ (j : Kind). All (Fits j) vs) e (All-weaker (HasType t) (Fits (physical t)) (fits t) vs all)

-- a chunk of nulls holds nothing else
pub null-only : (v : Datum) → Fits kind.null v → v ≡ value.null
null-only value.null h = refl
null-only (value.boolean b) h = cc
null-only (value.int i) h = absurd h
null-only (value.string s) h = absurd (differ h.0)
  where
    differ : kind.null ≡ kind.string → ⊥
    differ e = cc
null-only (value.binary s) h = absurd (differ h.0)
  where
    differ : kind.null ≡ kind.binary → ⊥
    differ e = cc
null-only (value.list vs) h = absurd h
null-only (value.struct vs) h = absurd h
