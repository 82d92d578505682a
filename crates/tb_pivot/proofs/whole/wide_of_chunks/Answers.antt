use Rattle.std.proofs.Common.{◌≡◌, ◌∙◌, true, IfOk, ap, subst}
use Rattle.tb_value.specs.Promise.Refusals.{first_cause}
use Rattle.tb_value.specs.Refusals.{Settles}
use Rattle.tb_chunk.specs.Lent.{lent_columns}
use Rattle.tb_frame.specs.Promise.Table.{TableColumn, table_of}
use Rattle.tb_pivot.specs.Made.{takes}
use Rattle.tb_pivot.specs.Promise.Pivot.{wide}
use Rattle.tb_pivot.specs.Promise.Refusal.{value_causes}
use Rattle.tb_pivot.specs.Promise.Request.{Chosen}
use Rattle.tb_pivot.proofs.SameTable.{all_plain, as_high, same_chosen, whole_table}
use Rattle.tb_pivot.proofs.whole.wide_of_chunks.Goals as goal

pub wide-requires-2-clause-high : goal.wide-requires-2-clause-high
wide-requires-2-clause-high g c =
    let old = c.args.columns.now in
    let new = c.in_ok-whole.whole in
    let keys = c.in_ok-keys.keys in
    as_high new old
    (whole_table (lent_columns new.on.items) keys.on.items (lent_columns old.on.items) c.in_ok-whole.ensures.on c.in_ok-keys.ensures.on)
    (whole_table (lent_columns new.index.items) keys.index.items (lent_columns old.index.items) c.in_ok-whole.ensures.index c.in_ok-keys.ensures.index)
    (ap table_of (c.in_ok-whole.ensures.values ∙ ap lent_columns c.deref-2.ensures.value))
    c.args.height c.requires.high

pub wide-requires-2-clause-taken : goal.wide-requires-2-clause-taken
wide-requires-2-clause-taken g c =
    all_plain (λ (v : TableColumn). takes (g.M.CellMaker.way c.args.maker.now) v.kind ≡ true) c.in_ok-whole.whole.values.items c.args.columns.now.values.items
    (ap table_of (c.in_ok-whole.ensures.values ∙ ap lent_columns c.deref-2.ensures.value)) c.requires.taken

pub returns-clause-settles : goal.returns-clause-settles
returns-clause-settles g c =
    let old = c.args.columns.now in
    let new = c.in_ok-whole.whole in
    let keys = c.in_ok-keys.keys in
    subst (λ (q : Chosen). Settles c.wide-2.result (first_cause (value_causes q)))
    (same_chosen new old
    (whole_table (lent_columns new.on.items) keys.on.items (lent_columns old.on.items) c.in_ok-whole.ensures.on c.in_ok-keys.ensures.on)
    (whole_table (lent_columns new.index.items) keys.index.items (lent_columns old.index.items) c.in_ok-whole.ensures.index c.in_ok-keys.ensures.index)
    (ap table_of (c.in_ok-whole.ensures.values ∙ ap lent_columns c.deref-2.ensures.value))
    c.args.height c.args.sorts (g.M.CellMaker.way c.args.maker.now) c.args.separator.now)
    c.wide-2.ensures.settles

pub returns-clause-table : goal.returns-clause-table
returns-clause-table g c =
    let old = c.args.columns.now in
    let new = c.in_ok-whole.whole in
    let keys = c.in_ok-keys.keys in
    subst (λ (q : Chosen). IfOk c.wide-2.result (λ t. table_of t ≡ wide q))
    (same_chosen new old
    (whole_table (lent_columns new.on.items) keys.on.items (lent_columns old.on.items) c.in_ok-whole.ensures.on c.in_ok-keys.ensures.on)
    (whole_table (lent_columns new.index.items) keys.index.items (lent_columns old.index.items) c.in_ok-whole.ensures.index c.in_ok-keys.ensures.index)
    (ap table_of (c.in_ok-whole.ensures.values ∙ ap lent_columns c.deref-2.ensures.value))
    c.args.height c.args.sorts (g.M.CellMaker.way c.args.maker.now) c.args.separator.now)
    c.wide-2.ensures.table
