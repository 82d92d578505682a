-- What is taken up of tables.
use Rattle.std.specs.Prelude.{◌≡◌, ℕ, nat_lt, Bool, ◌&&◌, List, filter, length, map, slice_index_or}
use Rattle.std.specs.List.{enumerate_from}
use Rattle.tb_value.specs.Promise.Datum.{Datum, null}
use Rattle.tb_value.specs.Promise.Pairs.{row_numbers}
use Rattle.tb_value.specs.Promise.Same.{agrees}
use Rattle.tb_value.specs.See.{data_of, datum}
use Rattle.tb_frame.specs.Promise.Table.{Table, row_at}
use Rattle.tb_delta.specs.Promise.State.{SideState}
use Rattle.tb_delta.specs.declared.side_rows.StoredRow.{StoredRow}

-- a side with the first n rows of a table
abbrev pub with_first : Table → ℕ → SideState → SideState
with_first t n s = record s { rows = enumerate_from 0 (map (row_at t) (row_numbers n)); ever = n }

-- the value of a row
abbrev pub value_at : List Datum → ℕ → Datum
value_at vs i = slice_index_or vs i null

-- the rows whose value agrees with another
abbrev pub rows_agreeing : Bool → List Datum → Datum → List ℕ
rows_agreeing nulls vs k = filter (λ i. agrees nulls (value_at vs i) k) (row_numbers (length vs))

-- those of them that have a number below p
abbrev pub led : Bool → List Datum → List ℕ → ℕ → Datum → List ℕ
led nulls vs numbers p k =
    filter (λ i. agrees nulls (value_at vs i) k && nat_lt (slice_index_or numbers i 0) p)
    (row_numbers (length vs))

-- the key that stands beside a row is its value at a place
abbrev pub HasKeyAt : ℕ → ℕ × StoredRow → Type 0
HasKeyAt place e = datum e.1.key.value ≡ value_at (data_of e.1.values.items) place
