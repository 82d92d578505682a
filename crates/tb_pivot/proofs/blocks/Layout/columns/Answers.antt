use Rattle.std.proofs.Common.{◌≡◌, ◌∙◌, ◌<◌, ◌++◌, ◌∷◌, [], List, append-nil, get_or, length, ap, subst, sym, map, take, arith}
use Rattle.std.specs.List.{flat_map}
use Rattle.std.proofs.lemmas.List.{flat_map_more, take_all, take_more}
use Rattle.tb_chunk.specs.Promise.Col.{values}
use Rattle.tb_chunk.specs.Lent.{lent_columns}
use Rattle.tb_frame.specs.Frame.{taken_rows}
use Rattle.tb_frame.specs.Promise.Table.{Table, TableColumn, table_of}
use Rattle.tb_pivot.specs.Layout.{laid_block}
use Rattle.tb_pivot.specs.declared.blocks.GroupValues.{GroupValues}
use Rattle.tb_pivot.proofs.blocks.Layout.columns.Goals as goal

pub loop-block-init : goal.loop-block-init
loop-block-init c =
    let index : Table = table_of (map (taken_rows c.args.self.now.cells.rows.firsts.items) (lent_columns c.args.self.now.columns.now.index.items)) in
    ap table_of c.in_ok-columns.ensures ∙ sym (append-nil index)

pub push_block-requires-clause-made : goal.push_block-requires-clause-made
push_block-requires-clause-made c =
    let b = c.block-item.result in
    let many = length c.args.self.now.cells.groups.firsts.items in
    subst (λ (d : GroupValues). length (values d.made) ≡ many) (sym c.block-item.is) (c.requires.made c.loop-block.block-index b c.loop-block-test.true)

pub loop-block-preserved : goal.loop-block-preserved
loop-block-preserved c =
    let l = c.args.self.now in
    let b : GroupValues = c.block-item.result in
    let bs : List GroupValues = c.args.blocks.now in
    let i = c.loop-block.block-index in
    let laid : GroupValues → List TableColumn = λ d. laid_block l d.value.now d.made in
    let index : Table = table_of (map (taken_rows l.cells.rows.firsts.items) (lent_columns l.columns.now.index.items)) in
    c.in_ok-push_block.ensures
    ∙ (λ t. c.loop-block.invariant t ++ laid b)
    ∙ flat_map_more laid index (take i bs) b
    ∙ ap (λ (d : GroupValues). index ++ flat_map laid (take i bs ++ d ∷ [])) c.block-item.is
    ∙ ap (λ (ds : List GroupValues). index ++ flat_map laid ds) (sym (take_more bs i b c.loop-block-test.true))

pub returns : goal.returns
returns c =
    let l = c.args.self.now in
    let bs : List GroupValues = c.args.blocks.now in
    let laid : GroupValues → List TableColumn = λ d. laid_block l d.value.now d.made in
    let index : Table = table_of (map (taken_rows l.cells.rows.firsts.items) (lent_columns l.columns.now.index.items)) in
    c.loop-block.invariant ∙ ap (λ (ds : List GroupValues). index ++ flat_map laid ds) (take_all c.loop-block.block-index bs (omega (arith, c.loop-block-test.false)))
