-- A table in parts, by its keys, and when it is not parted.
use Rattle.std.specs.Prelude.{ℕ, ◌==◌, Bool, false, not, List, [], ◌∷◌, length, map, Option}
use Rattle.std.specs.Option.{option_map}
use Rattle.std.specs.List.{filter_map, find}
use Rattle.tb_value.specs.Promise.Datum.{Datum, binary}
use Rattle.tb_value.specs.Promise.Kind.{Kind}
use Rattle.tb_value.specs.Promise.Names.{Name}
use Rattle.tb_value.specs.Promise.Pairs.{row_numbers}
use Rattle.tb_value.specs.Promise.Refusals.{first_cause, when}
use Rattle.tb_value.specs.Promise.SameKind.{is_key}
use Rattle.tb_value.specs.declared.error.InvalidCause.TheVariants.{NoKeys, KeyKind}
use Rattle.tb_value.specs.declared.error.PolarsError.{PolarsError}
use Rattle.tb_value.specs.declared.error.PolarsError.TheVariants.{InvalidOperation}
use Rattle.tb_frame.specs.Promise.Join.{column_named}
use Rattle.tb_frame.specs.Promise.Refusal.{kind_at, repeated_among, unknown_key}
use Rattle.tb_frame.specs.Promise.Table.{TableColumn, Table, height, row_at}
use Rattle.tb_rowkey.specs.Promise.RowKey.{key_row}
use Rattle.tb_build.specs.Promise.Codes.{fibonacci, fnv1a, part_of}
use Rattle.tb_parts.specs.Promise.Parts.{rows_in, table_among}

-- the code of the key of a row: that of its bytes, and 0 of Null
abbrev pub code_of_key : Datum → ℕ
code_of_key (binary s) = fnv1a s
code_of_key _ = 0

-- the part, of n, into which a row with such fields of its keys falls; it is part 0 where a field is Null
abbrev pub key_part : List Kind → ℕ → List Datum → ℕ
key_part kinds n fields = part_of (fibonacci (code_of_key (key_row kinds (λ _. false) fields))) n

abbrev pub kinds_of : Table → List Kind
kinds_of keys = map (λ (c : TableColumn). c.kind) keys

-- the rows, ascending, of h that fall into part p of n by the fields of these keys
abbrev pub rows_by_keys : Table → ℕ → ℕ → ℕ → List ℕ
rows_by_keys keys h n p = rows_in (λ i. key_part (kinds_of keys) n (row_at keys i)) h p

-- the columns of these names
abbrev pub split_keys : Table → List Name → Table
split_keys t on = filter_map (column_named t) on

-- the rows of part p of n, and that part
abbrev pub split_rows : Table → List Name → ℕ → ℕ → List ℕ
split_rows t on n p = rows_by_keys (split_keys t on) (height t) n p

abbrev pub split_table : Table → List Name → ℕ → ℕ → Table
split_table t on n p = table_among (split_rows t on n p) t

-- no name is given, a name is of no column, a name is repeated, or a column is of a type that has no keys
abbrev pub no_names : List Name → Option PolarsError
no_names on = when (length on == 0) (InvalidOperation NoKeys)

abbrev pub first_no_key : List TableColumn → Option PolarsError
first_no_key keys = option_map (λ p. InvalidOperation (KeyKind p))
    (find (λ p. not (is_key (kind_at keys p))) (row_numbers (length keys)))

abbrev pub split_refusal : Table → List Name → Option PolarsError
split_refusal t on = first_cause
    (no_names on ∷ unknown_key t on ∷ repeated_among on ∷ first_no_key (split_keys t on) ∷ [])
