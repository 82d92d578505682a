-- Dummies: a column replaced by one column for each of its values, which says in which rows the value stands.
use Rattle.std.specs.Prelude.{ℕ, pos, ◌==◌, Bool, true, ◌&&◌, not, if◌then◌else◌, List, [], ◌∷◌, ◌++◌, length, map, filter, Option, Some, None}
use Rattle.std.specs.Option.{option_map}
use Rattle.std.specs.List.{find, flat_map}
use Rattle.tb_value.specs.Promise.Datum.{Datum, int}
use Rattle.tb_value.specs.Promise.Kind as kind
use Rattle.tb_value.specs.Promise.Names.{Name}
use Rattle.tb_value.specs.Promise.Refusals.{first_cause}
use Rattle.tb_value.specs.Promise.Same.{same}
use Rattle.tb_value.specs.declared.error.InvalidCause.TheVariants.{HeaderType}
use Rattle.tb_value.specs.declared.error.PolarsError.{PolarsError}
use Rattle.tb_value.specs.declared.error.PolarsError.TheVariants.{InvalidOperation}
use Rattle.tb_frame.specs.Promise.Naming.{is_among}
use Rattle.tb_frame.specs.Promise.Refusal.{repeated_among}
use Rattle.tb_frame.specs.Promise.Table.{TableColumn, Table, by_name, names_of}
use Rattle.tb_label.specs.Promise.Label.{is_header, value_text}
use Rattle.tb_rows.specs.Promise.InOrder.{in_order}
use Rattle.tb_rows.specs.Promise.Rows.{first_rows, same_rows, row_value}

-- a request: the table, the names of the columns that are replaced, what stands between a column's name and a value's
-- text, and whether the value of row 0 is left out
pub record Request : Type 0 where
  pub table : Table
  pub columns : Option (List Name)
  pub separator : Name
  pub drop_first : Bool

-- whether a column of this name is replaced: all are where no names are given
abbrev pub is_replaced : Option (List Name) → Name → Bool
is_replaced None n = true
is_replaced (Some names) n = is_among names n

-- THE COLUMNS THAT ARE MADE OF ONE

-- 1 where a value is the same as another, else 0
abbrev pub mark : Datum → Datum → Datum
mark v w = int (pos (if same v w then 1 else 0))

-- the column for a value: where it stands in a column, called by that column's name and the value's text
abbrev pub dummy : Name → TableColumn → Datum → TableColumn
dummy separator c v = record
    { name = c.name ++ separator ++ value_text v; kind = kind.uint8; values = map (mark v) c.values }

-- the rows in which the values of a column stand for the first time, less row 0 where it is left out
abbrev pub value_rows : Bool → List Datum → List ℕ
value_rows drop_first vs =
    filter (λ i. not (drop_first && i == 0)) (first_rows (same_rows (vs ∷ [])) (length vs))

-- the columns for the values of a column, by the bytes of their names
abbrev pub dummies_of : Name → Bool → TableColumn → List TableColumn
dummies_of separator drop_first c = in_order by_name
    (map (λ i. dummy separator c (row_value c.values i)) (value_rows drop_first c.values))

-- THE TABLE

-- what stands in the place of a column, where those of some names are replaced
abbrev pub in_place_of : (Name → Bool) → Name → Bool → TableColumn → List TableColumn
in_place_of replaced separator drop_first c =
    (if replaced c.name then dummies_of separator drop_first c else c ∷ [])

abbrev pub dummies_table : Request → Table
dummies_table q = flat_map (in_place_of (is_replaced q.columns) q.separator q.drop_first) q.table

-- WHY THERE IS NONE

-- the first column that is replaced and whose values name no columns
abbrev pub header_cause : (Name → Bool) → Table → Option PolarsError
header_cause replaced t = option_map (λ (c : TableColumn). InvalidOperation (HeaderType c.name))
    (find (λ (c : TableColumn). replaced c.name && not (is_header c.kind)) t)

abbrev pub dummies_refusal : Request → Option PolarsError
dummies_refusal q = first_cause
    (header_cause (is_replaced q.columns) q.table ∷ repeated_among (names_of (dummies_table q))
    ∷ [])
