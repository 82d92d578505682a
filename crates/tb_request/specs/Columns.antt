-- The values of a written column.
use Rattle.tb_chunk.specs.Promise.Col.{Col}
use Rattle.tb_chunk.specs.Promise.Fresh.{fresh_view_arrays}

-- the column, wherever its texts stand: as if they had been put one after another
abbrev pub relaid_column : Col → Col
relaid_column c = record c { view_arrays = fresh_view_arrays c.chunks }
