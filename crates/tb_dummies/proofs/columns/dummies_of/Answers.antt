use Rattle.std.proofs.Common.{◌∙◌, ap, rules}
use Rattle.std.specs.Cmp.Lexicographic.{on_texts}
use Rattle.tb_chunk.specs.Promise.Col.{Col}
use Rattle.tb_frame.specs.Promise.Table.{by_name, plain_column, table_of}
use Rattle.tb_rows.specs.Promise.InOrder.{in_order}
use Rattle.tb_rows.proofs.InOrder.{in_order-map, sorted_in_order}
use Rattle.tb_dummies.proofs.columns.dummies_of.Goals as goal

pub returns : goal.returns
returns c =
    let made = c.in_ok-made.made.items in
    ap table_of (sorted_in_order _ _ (λ (a b : Col). by_name (plain_column a) (plain_column b)) (on_texts (λ (d : Col). d.name)) (λ f a r g k. search rules) made c.sort_by.new.self.items c.in_ok-sort_by.ensures.sorted c.in_ok-sort_by.ensures.stable)
    ∙ in_order-map plain_column by_name made ∙ ap (in_order by_name) c.in_ok-made.ensures
