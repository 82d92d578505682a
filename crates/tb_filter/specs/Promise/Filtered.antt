-- The rows of a table that pass a test of one of its columns.
use Rattle.std.specs.Prelude.{ℕ, nat_lt, Bool, true, false, ◌&&◌, List, length, map, filter, slice_index_or}
use Rattle.std.specs.List.{list_all}
use Rattle.std.specs.Ordering.{is_lt}
use Rattle.std.specs.Str.{is_utf8}
use Rattle.tb_value.specs.Promise.Datum.{Datum, null, boolean, int, string, binary, list, struct, is_null, is_present}
use Rattle.tb_value.specs.Promise.Kind.{Kind}
use Rattle.tb_value.specs.Promise.Kind as kind
use Rattle.tb_value.specs.Promise.Pairs.{row_numbers}
use Rattle.tb_value.specs.Promise.Same.{same}
use Rattle.tb_value.specs.Promise.SameKind.{same_kind}
use Rattle.tb_value.specs.Promise.Typed.{ends}
use Rattle.tb_value.specs.declared.limits.TheConstants.{TOO_LONG}
use Rattle.tb_cell.specs.Promise.Flag.{datum_cmp}
use Rattle.tb_agg.specs.Promise.Outcome.{lies_within}
use Rattle.tb_frame.specs.Promise.Table.{TableColumn, Table}

-- a test of a field: that it is absent, that it is there, that it is a value, or that it is less than a value
pub data Check : Type 0 where
  is_absent : Check
  is_there : Check
  equals : Datum → Check
  less : Datum → Check

-- Null passes the first alone
abbrev pub passes : Check → Datum → Bool
passes is_absent v = is_null v
passes is_there v = is_present v
passes (equals w) v = is_present v && same v w
passes (less w) v = is_present v && is_lt (datum_cmp v w)

-- whether a value is there and is one of a type that has keys
abbrev pub is_key_value : Kind → Datum → Bool
is_key_value t null = false
is_key_value t (boolean b) = same_kind t kind.boolean
is_key_value t (int z) = lies_within (ends t) z
is_key_value t (string s) = same_kind t kind.string && nat_lt (length s) TOO_LONG && is_utf8 s
is_key_value t (binary s) =
    same_kind t kind.binary && nat_lt (length s) TOO_LONG && list_all (λ b. nat_lt b 256) s
is_key_value t (list vs) = false
is_key_value t (struct vs) = false

-- whether a test may be put to the values of a type: where it compares, the type has keys, and it compares with a value of it
abbrev pub may_test : Check → Kind → Bool
may_test is_absent t = true
may_test is_there t = true
may_test (equals w) t = is_key_value t w
may_test (less w) t = is_key_value t w

-- the rows whose field in a column passes, in order
abbrev pub rows_kept : Check → TableColumn → List ℕ
rows_kept k c =
    filter (λ i. passes k (slice_index_or c.values i null)) (row_numbers (length c.values))

-- these rows of a table
abbrev pub with_rows : List ℕ → Table → Table
with_rows rows t = map
    (λ (c : TableColumn). record c { values = map (λ i. slice_index_or c.values i null) rows }) t
