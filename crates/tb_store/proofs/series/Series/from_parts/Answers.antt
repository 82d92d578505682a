use Rattle.tb_store.proofs.Columns.{chunks_few}
use Rattle.tb_store.proofs.series.Series.from_parts.Goals as goal

pub invariant_of-result : goal.invariant_of-result
invariant_of-result c = (c.requires.storage, c.requires.column, chunks_few c.args.chunks c.requires.few_buffers)
