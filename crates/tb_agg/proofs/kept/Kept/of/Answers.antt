use Rattle.std.proofs.Common.{◌∙◌, ap, length, sym}
use Rattle.tb_chunk.specs.Promise.Col.{values}
use Rattle.tb_rows.specs.Names.{name_of}
use Rattle.tb_agg.specs.Grouped.{rows_by_group}
use Rattle.tb_agg.specs.Kept.{counted, kept_of}
use Rattle.tb_agg.specs.declared.table.Aggregate.{Aggregate}
use Rattle.tb_agg.proofs.Keeping.{counts_named, named_few}
use Rattle.tb_agg.proofs.kept.Kept.of.Goals as goal

pub counts_of-requires-clause-few : goal.counts_of-requires-clause-few
counts_of-requires-clause-few c = named_few c.args.names (length c.args.groups.now.numbers.items) c.requires.rows.named

pub returns-in_ok-counts_of-in-Count : goal.returns-in_ok-counts_of-in-Count
returns-in_ok-counts_of-in-Count c =
    let name = name_of c.args.names in
    let g = c.args.groups.now in
    ap counted (c.in_ok-counts_of-in-Count.ensures ∙ counts_named name g)
    ∙ sym (ap (λ (a : Aggregate). kept_of a (values c.args.column.now) (rows_by_group name g)) c.in-Count.is)
