-- Types that are stored as texts and as bytes.
use Rattle.std.proofs.Common.{◌≡◌, ◌∙◌, Bool, true, false, ap, refl, sym}
use Rattle.tb_value.specs.Promise.Kind as kind
use Rattle.tb_value.specs.Promise.Kind.{Kind}
use Rattle.tb_chunk.specs.Col.{physical}

abbrev is_text : Kind → Bool
is_text kind.string = true
is_text kind.binary = true
is_text _ = false

as_itself : (t : Kind) → is_text (physical t) ≡ true → physical t ≡ t
as_itself kind.date h = cc
as_itself kind.time h = cc
as_itself (kind.datetime u z) h = cc
as_itself (kind.duration u) h = cc
as_itself (kind.list t) h = cc
as_itself (kind.struct ps) h = cc
as_itself t h = refl

pub string_alone : (t : Kind) → physical t ≡ kind.string → t ≡ kind.string
string_alone t e = sym (as_itself t (ap is_text e)) ∙ e

pub binary_alone : (t : Kind) → physical t ≡ kind.binary → t ≡ kind.binary
binary_alone t e = sym (as_itself t (ap is_text e)) ∙ e
