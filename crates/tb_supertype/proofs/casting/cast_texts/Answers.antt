use Rattle.std.proofs.Common.{arith}
use Rattle.tb_value.specs.Promise.Kind as kind
use Rattle.tb_value.specs.See.{lent_value}
use Rattle.tb_chunk.specs.Promise.Col.{values}
use Rattle.tb_supertype.proofs.Stacks.{fits_at}
use Rattle.tb_supertype.proofs.casting.cast_texts.Goals as goal

pub push_cast-requires-clause-fits : goal.push_cast-requires-clause-fits
push_cast-requires-clause-fits c =
    fits_at kind.string kind.string (values c.args.column.now) c.loop-row.row (lent_value c.get.result) (omega arith) c.get.ensures.value c.requires
