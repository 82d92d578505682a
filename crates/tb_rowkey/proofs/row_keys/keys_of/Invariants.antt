use Rattle.std.proofs.Common.{ℕ, ◌<◌}
use Rattle.tb_rowkey.specs.Promise.Columns.{key_at}
use Rattle.tb_rowkey.specs.Columns.{flag_of, IsShortRow}
use Rattle.tb_rowkey.specs.Places.{places_in}
use Rattle.tb_rowkey.specs.RowKeys.{bytes_of}
use Rattle.tb_rowkey.proofs.Written.{AreWritten}
use Rattle.tb_rowkey.proofs.row_keys.keys_of.Given as goal

-- the keys of the rows so far, and that these are short
abbrev pub invariant-loop-row : goal.invariant-loop-row
invariant-loop-row l = record {
  written : AreWritten (λ i. bytes_of (key_at l.columns (flag_of l.join_nulls) i)) l.row l.bytes.items (places_in l.places);
  short : (i : ℕ) → i < l.row → IsShortRow l.columns i;
}
