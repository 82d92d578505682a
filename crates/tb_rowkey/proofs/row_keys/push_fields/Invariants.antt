use Rattle.std.proofs.Common.{◌≡◌, ◌++◌, ◌&&◌, drop}
use Rattle.tb_rowkey.specs.Promise.Columns.{fields_at, row_bytes}
use Rattle.tb_rowkey.specs.Columns.{flag_of}
use Rattle.tb_rowkey.specs.Promise.RowKey.{has_key}
use Rattle.tb_rowkey.proofs.KeyRows.{has_key_from}
use Rattle.tb_rowkey.proofs.row_keys.push_fields.Given as goal

-- what is written, with the bytes of the columns behind, is the row
abbrev pub invariant-loop-place : goal.invariant-loop-place
invariant-loop-place l = record {
  bytes_so_far : l.bytes.items ++ row_bytes (drop l.place l.columns) l.row
      ≡ l.initial.bytes.items ++ row_bytes l.columns l.row;
  key_so_far : (l.has_key && has_key_from (flag_of l.join_nulls) l.place (drop l.place l.columns) l.row)
      ≡ has_key (flag_of l.join_nulls) (fields_at l.columns l.row);
}
