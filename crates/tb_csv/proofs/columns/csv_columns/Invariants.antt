use Rattle.std.proofs.Common.{◌≡◌, ◌≤◌, ◌-◌, List, None, length, map}
use Rattle.std.specs.List.{AllZip, range_with_len}
use Rattle.tb_value.specs.Promise.Pairs.{row_numbers}
use Rattle.tb_frame.specs.Promise.Table.{table_of}
use Rattle.tb_value.specs.Promise.Refusals.{first_cause}
use Rattle.tb_csv.specs.Promise.Faults.{typed_fault}
use Rattle.tb_csv.specs.Read.{AreRows, IsReadColumn}
use Rattle.tb_csv.specs.Promise.Records.{Record}
use Rattle.tb_csv.specs.Promise.Tables.{csv_column}
use Rattle.tb_csv.proofs.columns.csv_columns.Given as goal

-- the columns so far, and what is left of those that were read
abbrev pub invariant-loop-column : goal.invariant-loop-column
invariant-loop-column g l =
    (rows : List Record) → AreRows l.records rows
    → (table_of l.columns.items ≡ map (csv_column l.types l.records.names.items rows) (row_numbers (length l.yielded)))
    × (first_cause (map (typed_fault l.types l.records.names.items rows) (row_numbers (length l.yielded))) ≡ None)
    × (length l.yielded ≤ length l.records.names.items)
    × AllZip (IsReadColumn l.types l.records.names.items rows) (range_with_len (length l.yielded) (length l.records.names.items - length l.yielded)) l.column-iterator.rest.items
