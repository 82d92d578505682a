use Rattle.std.proofs.Common.{List, subst, sym}
use Rattle.tb_value.specs.Promise.Datum.{Datum}
use Rattle.tb_chunk.specs.Promise.Col.{concatenation}
use Rattle.std.specs.Prelude.{map}
use Rattle.tb_sorted.specs.Columns.{MayMerge, cell_lists}
use Rattle.tb_sorted.specs.Listed.{AreValuesMerged}
use Rattle.tb_sorted.specs.Path.{order_after}
use Rattle.tb_sorted.proofs.typed.pairs_of_cells.Goals as goal

pub merged_values-requires-clause-may : goal.merged_values-requires-clause-may
merged_values-requires-clause-may g c κs within =
    let shows = g.N.Cell.shows in
    subst (λ (us : List Datum). MayMerge c.args.first c.args.keep_unmatched us (map shows c.lone_values-right.result.values.now)) (sym c.lone_values-left.ensures)
    (subst (λ (vs : List Datum). MayMerge c.args.first c.args.keep_unmatched (concatenation (cell_lists shows c.args.left.now)) vs) (sym c.lone_values-right.ensures) c.requires.may)

pub returns : goal.returns
returns g c =
    let shows = g.N.Cell.shows in
    subst (λ (us : List Datum). AreValuesMerged (order_after c.args.first) c.args.keep_unmatched us (concatenation (cell_lists shows c.args.right.now)) c.merged_values.result) c.lone_values-left.ensures
    (subst (λ (vs : List Datum). AreValuesMerged (order_after c.args.first) c.args.keep_unmatched (map shows c.lone_values-left.result.values.now) vs c.merged_values.result) c.lone_values-right.ensures c.merged_values.ensures)
