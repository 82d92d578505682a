use Rattle.tb_value.specs.SeeKind.{kind_of}
use Rattle.tb_supertype.proofs.Stacks.{only_nulls}
use Rattle.tb_supertype.proofs.casting.UsizeCastChunk.cast_of.Goals as goal

pub returns : goal.returns
returns c = only_nulls (kind_of c.args.dtype.now) c.args.column.now c.len.result c.requires.stored c.len.ensures.len c.requires.typed
