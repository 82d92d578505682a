use Rattle.std.proofs.Common.{◌≡◌, ◌∙◌, List, not, map, sym, subst}
use Rattle.std.proofs.lemmas.Result.{IfOk-weaker}
use Rattle.tb_value.specs.declared.sorted.IsSorted.TheVariants.{Not}
use Rattle.tb_chunk.specs.Promise.Col.{Col}
use Rattle.tb_frame.specs.Frame.{without_names}
use Rattle.tb_frame.specs.Promise.Naming.{is_among}
use Rattle.tb_frame.specs.Promise.Table.{IsTable, table_of}
use Rattle.tb_frame.proofs.Frames.{IsTable-where, without-table}
use Rattle.tb_gather.proofs.Frames.{IsTable-rows}
use Rattle.tb_dispatch.proofs.left.half.Goals as goal

pub made_table-requires : goal.made_table-requires
made_table-requires g c =
    let cs = c.args.table.now in
    let gone = c.args.gone.now in
    let table = c.get_columns-columns.ensures.table in
    let thinned = subst IsTable (sym (without-table gone cs)) (IsTable-where (λ n. not (is_among gone n)) (table_of cs) table) in
    subst (λ (ks : List Col). IsTable (table_of ks)) (sym c.in_ok-columns.ensures) (IsTable-rows (map g.S.RowOf.number c.args.pairs.now) Not (without_names gone cs) thinned)

pub returns : goal.returns
returns g c = IfOk-weaker c.made_table.result (λ (t : List Col). t ≡ c.in_ok-columns.columns.items) _ (λ t h. h ∙ c.in_ok-columns.ensures) c.made_table.ensures
