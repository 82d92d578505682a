use Rattle.std.proofs.Common.{Bor, ◌*◌, ◌≤◌, length, subst, sym}
use Rattle.tb_value.specs.declared.limits.TheConstants.{MAX_ROWS}
use Rattle.tb_chunk.specs.Promise.Col.{Col, values}
use Rattle.tb_unpivot.proofs.Lists.{repeats_more}
use Rattle.tb_unpivot.proofs.columns.index_columns.Goals as goal

pub repeated-requires : goal.repeated-requires
repeated-requires c =
    subst (λ (b : Bor Col). length (values b.now) * c.args.times ≤ MAX_ROWS) (sym c.column-item.is) (c.requires c.loop-column.column-index c.column-item.result c.loop-column-test.true)

pub loop-column-preserved : goal.loop-column-preserved
loop-column-preserved c =
    repeats_more c.args.times c.loop-column.repeats.items _ c.args.columns.now c.loop-column.column-index c.column-item.result _ c.loop-column-test.true c.column-item.is c.in_ok-push.ensures.items c.in_ok-repeated.ensures c.loop-column.invariant
