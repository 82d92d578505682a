use Rattle.std.proofs.Common.{◌≡◌, arith, List, map, ap, sym, subst, ◌∙◌}
use Rattle.std.specs.List.{All}
use Rattle.std.proofs.lemmas.Result.{IfOk-weaker}
use Rattle.tb_chunk.specs.Promise.Col.{Col}
use Rattle.tb_frame.specs.Promise.Table.{table_of, IsTable}
use Rattle.tb_value.specs.declared.sorted.IsSorted.TheVariants.{Not}
use Rattle.tb_gather.specs.declared.keep.Keep.TheVariants.{Used}
use Rattle.tb_gather.specs.Gathered.{NameRows, gathered_column}
use Rattle.tb_gather.proofs.Flags.{gathered-not}
use Rattle.tb_gather.proofs.Frames.{IsTable-gathered}
use Rattle.tb_gather.proofs.tables.DataFrameTakeChunked.take_opt_chunked_unchecked.Goals as goal

pub gather_columns-requires : goal.gather_columns-requires
gather_columns-requires g c =
    let by = c.args.by.now in
    let named = subst (λ (cs : List Col). All (NameRows by) cs) (sym c.get_columns.ensures.columns) c.requires.named in
    (omega arith, (named, (tt, c.requires.few)))

pub made_table-requires : goal.made_table-requires
made_table-requires g c =
    let by = c.args.by.now in
    subst (λ (cs : List Col). IsTable (table_of cs)) (sym (c.in_ok-columns.ensures ∙ ap (map (gathered_column by Not)) c.get_columns.ensures.columns)) (IsTable-gathered Used by Not c.args.self.now c.get_columns.ensures.table)

pub returns : goal.returns
returns g c =
    let is = c.in_ok-columns.ensures ∙ ap (map (gathered_column c.args.by.now Not)) c.get_columns.ensures.columns ∙ gathered-not c.args.by.now c.args.self.now in
    IfOk-weaker c.made_table.result (λ (t : List Col). t ≡ c.in_ok-columns.columns.items) _ (λ t h. h ∙ is) c.made_table.ensures
