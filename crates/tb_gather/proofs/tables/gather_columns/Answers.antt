use Rattle.std.proofs.Common.{arith, sym, subst}
use Rattle.tb_chunk.specs.Promise.Col.{Col}
use Rattle.tb_gather.specs.Gathered.{NameRows}
use Rattle.tb_gather.proofs.tables.gather_columns.Goals as goal

pub gather_column-requires : goal.gather_column-requires
gather_column-requires g c =
    let named : NameRows c.args.by.now c.column-item.result = subst (λ (k : Col). NameRows c.args.by.now k) (sym c.column-item.is) (c.requires.named c.loop-column.column-index c.column-item.result c.loop-column-test.true) in
    (omega arith, (named, (c.requires.in_order, c.requires.few)))
