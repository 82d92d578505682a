use Rattle.std.proofs.Common.{arith}
use Rattle.tb_value.specs.See.{lent_value}
use Rattle.tb_value.specs.SeeKind.{kind_of}
use Rattle.tb_chunk.specs.Promise.Col.{values}
use Rattle.tb_supertype.proofs.Stacks.{fits_at}
use Rattle.tb_supertype.proofs.casting.cells_of.Goals as goal

pub cell_of-requires-clause-fits : goal.cell_of-requires-clause-fits
cell_of-requires-clause-fits g c =
    rw c.class_of-class.ensures
    (fits_at g.N.Cell.kind (kind_of c.args.dtype.now) (values c.args.column.now) c.loop-row.row (lent_value c.get.result) (omega arith) c.get.ensures.value c.requires)
