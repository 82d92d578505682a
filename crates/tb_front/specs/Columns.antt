-- Columns that are lent.
use Rattle.std.specs.Borrow.{Bor}
use Rattle.tb_chunk.specs.Promise.Col.{Col}
use Rattle.tb_frame.specs.Promise.Table.{TableColumn, plain_column}

abbrev pub lent_column : Bor Col → TableColumn
lent_column c = plain_column c.now
