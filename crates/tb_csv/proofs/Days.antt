-- Of a type only whether it is one of days shows in a field.
use Rattle.std.proofs.Common.{◌≡◌, ℕ, refl}
use Rattle.std.specs.Prelude.{Bool, true, false}
use Rattle.tb_value.specs.Promise.Datum.{Datum}
use Rattle.tb_value.specs.Promise.Datum as value
use Rattle.tb_value.specs.Promise.Kind.{Kind}
use Rattle.tb_date.specs.Promise.Dates.{is_date}
use Rattle.tb_csv.specs.Promise.Texts.{field_among, field_of}
use Rattle.tb_csv.specs.Texts.{kind_by_day}

pub day_of : (b : Bool) → is_date (kind_by_day b) ≡ b
day_of true = refl
day_of false = refl

field_by_day : (k : Kind) (v : Datum) → field_of (kind_by_day (is_date k)) v ≡ field_of k v
field_by_day k value.null = refl
field_by_day k (value.boolean b) = refl
field_by_day k (value.int z) = rw (day_of (is_date k)) refl
field_by_day k (value.string s) = refl
field_by_day k (value.binary s) = refl
field_by_day k (value.list vs) = refl
field_by_day k (value.struct vs) = refl

pub among : (n : ℕ) (k : Kind) (v : Datum) → field_among n (kind_by_day (is_date k)) v ≡ field_among n k v
among n k v = rw (field_by_day k v) refl
