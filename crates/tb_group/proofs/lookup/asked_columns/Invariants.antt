use Rattle.std.proofs.Common.{◌≡◌, take}
use Rattle.std.specs.List.{zip}
use Rattle.tb_chunk.specs.Lent.{lent_columns}
use Rattle.tb_frame.specs.Promise.Table.{table_of}
use Rattle.tb_group.specs.Asked.{asked_list}
use Rattle.tb_group.proofs.lookup.asked_columns.Given as goal

abbrev pub invariant-loop-place : goal.invariant-loop-place
invariant-loop-place l = asked_list l.asked.items ≡ zip (take l.place l.aggs) (take l.place (table_of (lent_columns l.sources)))
