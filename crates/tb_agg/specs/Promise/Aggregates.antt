-- What one value stands for several, and of which type it is.
use Rattle.std.specs.Prelude.{◌-◌, ◌&&◌, ◌||◌, ◌+ℤ◌, pos, ℤ, Bool, true, false, List, length, map, fold, Option, Some, None, if◌then◌else◌}
use Rattle.std.specs.Ordering.{is_lt}
use Rattle.tb_value.specs.Promise.Datum.{Datum, null, boolean, int, is_null, is_present}
use Rattle.tb_value.specs.Promise.Kind.{Kind}
use Rattle.tb_value.specs.Promise.Kind as kind
use Rattle.tb_value.specs.Promise.SameKind.{is_key}
use Rattle.tb_cell.specs.Promise.Order.{order_of}
use Rattle.tb_rows.specs.Promise.Rows.{row_value}
use Rattle.tb_agg.specs.declared.table.Aggregate.{Aggregate}
use Rattle.tb_agg.specs.declared.table.Aggregate.TheVariants.{First, Last, Sum, Min, Max, Count}

-- what a value counts for in a sum: a whole number for itself, true for 1, and the rest for nothing
abbrev pub number : Datum → ℤ
number (int i) = i
number (boolean true) = pos 1
number _ = pos 0

-- the exact sum
abbrev pub total : List Datum → ℤ
total vs = fold ◌+ℤ◌ (pos 0) (map number vs)

-- whether a value takes the place of the least, or of the greatest, so far: Null gives way to each value, and takes no place
abbrev pub beats : Bool → Datum → Datum → Bool
beats greatest best v = is_present v && (is_null best || is_lt (order_of greatest v best))

-- the least value that is present, or the greatest, and Null where none is
abbrev pub extreme : Bool → List Datum → Datum
extreme greatest vs = fold (λ best v. if beats greatest best v then v else best) null vs

-- the one value for the values of a group
abbrev pub aggregate : Aggregate → List Datum → Datum
aggregate First vs = row_value vs 0
aggregate Last vs = row_value vs (length vs - 1)
aggregate Sum vs = int (total vs)
aggregate Min vs = extreme false vs
aggregate Max vs = extreme true vs
aggregate Count vs = int (pos (length vs))

-- the type of a sum of values of a type; no other types have sums
abbrev pub sum_kind : Kind → Option Kind
sum_kind kind.boolean = Some kind.uint32
sum_kind kind.int8 = Some kind.int64
sum_kind kind.int16 = Some kind.int64
sum_kind kind.uint8 = Some kind.int64
sum_kind kind.uint16 = Some kind.int64
sum_kind kind.int32 = Some kind.int32
sum_kind kind.int64 = Some kind.int64
sum_kind kind.int128 = Some kind.int128
sum_kind kind.uint32 = Some kind.uint32
sum_kind kind.uint64 = Some kind.uint64
sum_kind (kind.duration u) = Some (kind.duration u)
sum_kind _ = None

-- the type of an aggregate of values of a type, where there is one
abbrev pub result_kind : Aggregate → Kind → Option Kind
result_kind First t = Some t
result_kind Last t = Some t
result_kind Sum t = sum_kind t
result_kind Min t = (if is_key t then Some t else None)
result_kind Max t = (if is_key t then Some t else None)
result_kind Count t = Some kind.uint32
