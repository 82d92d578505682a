use Rattle.std.proofs.Common.{rules}
use Rattle.std.proofs.lemmas.Cmp.{nat_cmp_total, on_total}
use Rattle.tb_rows.specs.Coded.{code_cmp}
use Rattle.tb_rows.specs.declared.coded.CodedRow.{CodedRow}
use Rattle.tb_rows.proofs.InOrder.{keeps_by, sorts_by}
use Rattle.tb_rows.proofs.coded.sort_by_codes.Goals as goal

pub returns : goal.returns
returns c =
    let old = c.args.rows.now.items in
    let new = c.sort_by.new.self.items in
    let total = on_total (λ (r : CodedRow). r.code) nat_cmp_total in
    record {
      permutation = c.in_ok-sort_by.ensures.permutation;
      sorted = sorts_by _ _ code_cmp total (λ a r h k. search rules) new c.in_ok-sort_by.ensures.sorted;
      stable = keeps_by _ _ code_cmp total (λ a r h k. search rules) old new c.in_ok-sort_by.ensures.stable;
    }
