use Rattle.std.proofs.Common.{arith, List, map, ap, sym, subst, ◌∙◌}
use Rattle.std.specs.List.{All}
use Rattle.tb_chunk.specs.Promise.Col.{Col}
use Rattle.tb_frame.specs.Promise.Table.{table_of, IsTable}
use Rattle.tb_gather.specs.declared.keep.Keep.TheVariants.{Used}
use Rattle.tb_gather.specs.Gathered.{NameRows, gathered_column}
use Rattle.tb_gather.proofs.Flags.{are-run}
use Rattle.tb_gather.proofs.Frames.{IsTable-gathered}
use Rattle.tb_gather.proofs.tables.DataFrameTakeChunked.take_chunked_unchecked.Goals as goal

pub gather_columns-requires : goal.gather_columns-requires
gather_columns-requires g c =
    let by = c.args.by.now in
    let named = subst (λ (cs : List Col). All (NameRows by) cs) (sym c.get_columns.ensures.columns) c.requires.named in
    (omega arith, (named, (are-run c.args.sorted by c.requires.present c.requires.in_order, c.requires.few)))

pub made_table-requires : goal.made_table-requires
made_table-requires g c =
    let by = c.args.by.now in
    subst (λ (cs : List Col). IsTable (table_of cs)) (sym (c.in_ok-columns.ensures ∙ ap (map (gathered_column by c.args.sorted)) c.get_columns.ensures.columns)) (IsTable-gathered Used by c.args.sorted c.args.self.now c.get_columns.ensures.table)
