use Rattle.std.proofs.Common.{◌≡◌, ◌++◌, string_bytes, take}
use Rattle.tb_frame.specs.Promise.Table.{names_of, table_of}
use Rattle.tb_layout.specs.Promise.Lines.{listed}
use Rattle.tb_layout.proofs.notes.push_names.Given as goal

abbrev pub invariant-loop-place : goal.invariant-loop-place
invariant-loop-place l = string_bytes l.text ≡ string_bytes l.initial.text ++ listed (names_of (table_of (take l.place l.columns)))
