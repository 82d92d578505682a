use Rattle.std.proofs.Common.{◌≡◌, ◌∙◌, ◌++◌, List, ap, map, sym, subst}
use Rattle.std.specs.List.{flat_map}
use Rattle.std.proofs.lemmas.Result.{err_from_is_err_and, IfOk-weaker}
use Rattle.tb_value.specs.Refusals.{Settles}
use Rattle.tb_chunk.specs.Lent.{lent_columns}
use Rattle.tb_frame.specs.Frame.{taken_rows}
use Rattle.tb_frame.specs.Promise.Table.{Table, table_of}
use Rattle.tb_pivot.specs.Layout.{index_and_blocks, laid_block, laid_out}
use Rattle.tb_pivot.specs.declared.blocks.GroupValues.{GroupValues}
use Rattle.tb_pivot.specs.declared.blocks.Layout.{Layout}
use Rattle.tb_pivot.proofs.Columns.{answer_is, made_stops, names_stop, refused_by_names, values_high, wide_is}
use Rattle.tb_pivot.proofs.wide.laid_table.Goals as goal

pub returns-in_err-blocks-clause-settles : goal.returns-in_err-blocks-clause-settles
returns-in_err-blocks-clause-settles g c =
    let p = err_from_is_err_and c.from_residual-in_err-blocks.result c.from_residual-in_err-blocks.ensures.1 in
    rw (p.1, p.2)
    (made_stops c.args.layout.now c.requires.layout (g.M.CellMaker.way c.args.maker.now) c.requires.taken c.in_ok-check_rows.ensures c.in_err-blocks.field-0.0 c.in_err-blocks.ensures.settles)

pub returns-in_err-check_names-clause-settles : goal.returns-in_err-check_names-clause-settles
returns-in_err-check_names-clause-settles g c =
    let p = err_from_is_err_and c.from_residual-in_err-check_names.result c.from_residual-in_err-check_names.ensures.1 in
    rw (p.1, p.2)
    (names_stop c.args.layout.now c.requires.layout (g.M.CellMaker.way c.args.maker.now) c.requires.taken c.in_ok-check_rows.ensures c.requires.some c.in_ok-blocks.ensures.settles c.in_err-check_names.field-0.0 c.in_err-check_names.ensures)

pub columns-requires-clause-made : goal.columns-requires-clause-made
columns-requires-clause-made g c =
    rw c.deref.ensures.value (values_high c.args.layout.now c.requires.layout (g.M.CellMaker.way c.args.maker.now) c.in_ok-blocks.blocks.items c.in_ok-blocks.ensures.made)

-- the columns are those of the answer
abbrev laid : Layout → List GroupValues → Table
laid l bs = table_of (map (taken_rows l.cells.rows.firsts.items) (lent_columns l.columns.now.index.items)) ++ flat_map (λ (b : GroupValues). laid_block l b.value.now b.made) bs

pub returns-clause-settles : goal.returns-clause-settles
returns-clause-settles g c =
    let l = c.args.layout.now in
    let way = g.M.CellMaker.way c.args.maker.now in
    let t : Table = table_of c.in_ok-columns.field-0.items in
    subst (λ o. Settles c.new.result o)
    (refused_by_names l c.requires.layout way c.requires.taken c.in_ok-check_rows.ensures t c.requires.some
    (answer_is l c.requires.layout way c.in_ok-blocks.blocks.items c.in_ok-blocks.ensures.values c.in_ok-blocks.ensures.made t (c.in_ok-columns.ensures ∙ ap (laid l) c.deref.ensures.value)) c.in_ok-blocks.ensures.settles)
    c.new.ensures.settles

pub returns-clause-table : goal.returns-clause-table
returns-clause-table g c =
    let l = c.args.layout.now in
    let way = g.M.CellMaker.way c.args.maker.now in
    let t : Table = table_of c.in_ok-columns.field-0.items in
    let is : t ≡ index_and_blocks (laid_out l way) = answer_is l c.requires.layout way c.in_ok-blocks.blocks.items c.in_ok-blocks.ensures.values c.in_ok-blocks.ensures.made t (c.in_ok-columns.ensures ∙ ap (laid l) c.deref.ensures.value) in
    IfOk-weaker c.new.result _ _ (λ d same. ap table_of same ∙ is ∙ sym (wide_is l c.requires.layout way c.requires.some)) c.new.ensures.columns
