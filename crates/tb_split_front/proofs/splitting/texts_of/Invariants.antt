use Rattle.std.proofs.Common.{◌≡◌, length, map}
use Rattle.tb_frame.specs.Promise.Table.{table_of}
use Rattle.tb_front.specs.Promise.Due.{each_from}
use Rattle.tb_front.proofs.Each.{behind}
use Rattle.tb_split_front.specs.Texts.{written_text}
use Rattle.tb_split_front.proofs.splitting.texts_of.Given as goal

-- the tables that are left decide
abbrev pub invariant-loop-table : goal.invariant-loop-table
invariant-loop-table g l =
    each_from (written_text l.separator) 0 (map table_of l.fn.tables.items)
    ≡ behind l.texts.items (each_from (written_text l.separator) (length l.texts.items) (map table_of l.table-iterator.rest.items))
