use Rattle.std.proofs.Common.{◌≡◌, take}
use Rattle.tb_frame.specs.Promise.Table.{table_of, names_of}
use Rattle.tb_dispatch.proofs.given.key_names.Given as goal

abbrev pub invariant-loop-key : goal.invariant-loop-key
invariant-loop-key l = l.names.items ≡ names_of (table_of (take l.key-index l.keys))
