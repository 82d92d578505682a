use Rattle.std.proofs.Common.{ℕ, ◌+◌, ◌-◌, length, arith, sym, subst}
use Rattle.tb_merge.specs.Faults.{SettlesCount}
use Rattle.tb_merge.proofs.Listings.{length-row_met}
use Rattle.tb_merge.proofs.pushing.push_row.Goals as goal

pub returns-then-start-end-clause-settles : goal.returns-then-start-end-clause-settles
returns-then-start-end-clause-settles c =
    let n = c.args.end - c.args.start in
    let e = length-row_met c.args.keep_unmatched c.args.left c.args.start n (omega arith) in
    subst (λ (k : ℕ). SettlesCount c.push_matched.result (length c.args.pairs.now.items + k)) (sym e) c.push_matched.ensures.settles
