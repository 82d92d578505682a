-- What holds of aggregates.
use Rattle.std.specs.Prelude.{◌≡◌, ◌⊎◌, ◌↔◌, true, false, List}
use Rattle.std.specs.List.{All, Contains}
use Rattle.std.specs.Ordering.{flip_args, is_lt}
use Rattle.std.specs.declared.cmp.Ordering.{Ordering}
use Rattle.tb_value.specs.Promise.Datum.{Datum, null, is_null, is_present}
use Rattle.tb_value.specs.Promise.Kind.{Kind}
use Rattle.tb_value.specs.Promise.SameKind.{is_key}
use Rattle.tb_value.specs.Promise.Typed.{HasType}
use Rattle.tb_cell.specs.Promise.Flag.{datum_cmp}
use Rattle.tb_agg.specs.Promise.Aggregates.{aggregate}
use Rattle.tb_agg.specs.declared.table.Aggregate.{Aggregate}
use Rattle.tb_agg.specs.declared.table.Aggregate.TheVariants.{Min, Max}

-- one of the values, present, and none that is present comes before it in the order
pub record IsFirstPresent (order : Datum → Datum → Ordering) (vs : List Datum)
    (v : Datum) : Type 0 where
  pub one : Contains vs v
  pub present : is_present v ≡ true
  pub none_before : All (λ w. is_present w ≡ true → is_lt (order w v) ≡ false) vs

-- Null, of values that are all Null
pub record IsNullOfNulls (vs : List Datum) (v : Datum) : Type 0 where
  pub null : v ≡ null
  pub nulls : All (λ w. is_null w ≡ true) vs

-- of values of a type that has keys the aggregate is the first one in the order that is present, or Null where all are, and no other value is
abbrev pub IsExtreme : Aggregate → (Datum → Datum → Ordering) → Type 0
IsExtreme agg order = (t : Kind) → is_key t ≡ true → (vs : List Datum) → All (HasType t) vs
    → (v : Datum) → (v ≡ aggregate agg vs) ↔ (IsFirstPresent order vs v ⊎ IsNullOfNulls vs v)

abbrev pub MinIsLeast : Type 0
MinIsLeast = IsExtreme Min datum_cmp

abbrev pub MaxIsGreatest : Type 0
MaxIsGreatest = IsExtreme Max (flip_args datum_cmp)
