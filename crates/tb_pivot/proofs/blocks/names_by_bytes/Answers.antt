use Rattle.std.proofs.Common.{rules}
use Rattle.std.specs.Cmp.Lexicographic.{on_texts, slice_cmp}
use Rattle.std.specs.Ordering.{nat_cmp}
use Rattle.tb_value.specs.Promise.Names.{Name}
use Rattle.tb_rows.proofs.InOrder.{sorted_in_order}
use Rattle.tb_pivot.proofs.blocks.names_by_bytes.Goals as goal

pub returns : goal.returns
returns c = sorted_in_order _ _ (λ (a b : Name). slice_cmp nat_cmp a b) (on_texts (λ (n : Name). n)) (λ f a r g k. search rules) c.args.names.items c.sort_by.new.self.items c.in_ok-sort_by.ensures.sorted c.in_ok-sort_by.ensures.stable
