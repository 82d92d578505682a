use Rattle.std.proofs.Common.{rules}
use Rattle.tb_rows.specs.Coded.{coded_cmp}
use Rattle.tb_rows.proofs.InOrder.{keeps_by, sorts_by}
use Rattle.tb_rows.proofs.Leaders.{coded_total}
use Rattle.tb_rows.proofs.coded.sort_by_values.Goals as goal

pub returns : goal.returns
returns c =
    let cs = c.args.columns.now in
    let old = c.args.rows.now.items in
    let new = c.sort_by.new.self.items in
    record {
      permutation = c.in_ok-sort_by.ensures.permutation;
      sorted = sorts_by _ _ (coded_cmp cs) (coded_total cs) (λ a r h k. search rules) new c.in_ok-sort_by.ensures.sorted;
      stable = keeps_by _ _ (coded_cmp cs) (coded_total cs) (λ a r h k. search rules) old new c.in_ok-sort_by.ensures.stable;
    }
