use Rattle.std.proofs.Common.{◌≡◌, ◌∙◌, List, length, sym, subst, arith}
use Rattle.std.proofs.lemmas.List.{take_all}
use Rattle.tb_chunk.specs.Promise.Col.{Col}
use Rattle.tb_chunk.specs.Lent.{lent_columns}
use Rattle.tb_frame.specs.Promise.Table.{TableColumn, height, table_of}
use Rattle.tb_frame.proofs.Taking.{all_plain}
use Rattle.tb_keys.specs.Rows.{HasRows}
use Rattle.tb_pairs.proofs.multiple.lent_series.Goals as goal

pub returns-clause-rows : goal.returns-clause-rows
returns-clause-rows c =
    let t = c.args.table.now in
    let lent : lent_columns c.loop-column.lent.items ≡ t = c.loop-column.invariant ∙ take_all c.loop-column.column-index c.get_columns-columns.result.now (omega arith) ∙ c.get_columns-columns.ensures.columns in
    subst (λ (cs : List Col). HasRows (height (table_of t)) cs) (sym lent)
    (all_plain (λ (c : TableColumn). length c.values ≡ height (table_of t)) t c.get_columns-columns.ensures.table.one_height)
