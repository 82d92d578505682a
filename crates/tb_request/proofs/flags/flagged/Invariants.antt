use Rattle.std.proofs.Common.{◌≡◌, map, true}
use Rattle.tb_frame.specs.Promise.Table.{table_of}
use Rattle.tb_request.specs.Columns.{relaid_column}
use Rattle.tb_request.specs.Promise.Flags.{flags_hold}
use Rattle.tb_request.specs.Lent.{claimed_view}
use Rattle.tb_request.proofs.flags.flagged.Given as goal

abbrev pub invariant-loop-item : goal.invariant-loop-item
invariant-loop-item l = record {
  hold : l.hold ≡ flags_hold (map claimed_view l.yielded);
  flagged : l.hold ≡ true → map relaid_column l.columns.items ≡ map claimed_view l.yielded;
  table : table_of l.columns.items ≡ table_of (map claimed_view l.yielded);
}
