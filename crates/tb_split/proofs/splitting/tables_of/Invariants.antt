use Rattle.std.proofs.Common.{◌≡◌, map, take}
use Rattle.tb_frame.specs.Promise.Table.{table_of}
use Rattle.tb_parts.specs.Promise.Parts.{table_among}
use Rattle.tb_split.proofs.splitting.tables_of.Given as goal

abbrev pub invariant-loop-part : goal.invariant-loop-part
invariant-loop-part l = map table_of l.tables.items ≡ map (λ rs. table_among rs (table_of l.table)) (take l.part l.rows)
