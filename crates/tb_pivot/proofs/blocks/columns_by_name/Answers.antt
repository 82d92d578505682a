use Rattle.std.proofs.Common.{◌∙◌, ap, rules}
use Rattle.std.specs.Cmp.Lexicographic.{on_texts}
use Rattle.tb_chunk.specs.Promise.Col.{Col}
use Rattle.tb_frame.specs.Promise.Table.{by_name, plain_column, table_of}
use Rattle.tb_rows.proofs.InOrder.{in_order-map, sorted_in_order}
use Rattle.tb_pivot.proofs.blocks.columns_by_name.Goals as goal

pub returns : goal.returns
returns c =
    let made = c.args.columns.items in
    ap table_of (sorted_in_order _ _ (λ (a b : Col). by_name (plain_column a) (plain_column b)) (on_texts (λ (d : Col). d.name)) (λ f a r g k. search rules) made c.sort_by.new.self.items c.in_ok-sort_by.ensures.sorted c.in_ok-sort_by.ensures.stable)
    ∙ in_order-map plain_column by_name made
