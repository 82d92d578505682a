use Rattle.std.proofs.Common.{List, subst, sym, ◌∙◌, ap}
use Rattle.std.specs.Prelude.{IsPermutation}
use Rattle.tb_value.specs.declared.index.JoinPair.{JoinPair}
use Rattle.tb_frame.specs.declared.args.Direction.{Direction}
use Rattle.tb_frame.specs.Promise.Join.{Ascends}
use Rattle.tb_hash.specs.Probing.{probed_order}
use Rattle.tb_pairs.proofs.hashed.found_by_hash.Goals as goal

pub returns-clause-listed : goal.returns-clause-listed
returns-clause-listed c list h =
    let is = sym c.into_pairs-pairs.ensures.value in
    let order = sym (c.probed_order-order.ensures ∙ ap (probed_order c.args.how) c.left_built.ensures) in
    record {
      permutation = subst (λ (ps : List JoinPair). IsPermutation list ps) is h.permutation;
      ascends = subst (λ (d : Direction). Ascends d c.into_pairs-pairs.result.items) order (subst (λ (ps : List JoinPair). Ascends (probed_order c.args.how c.args.built.left_built) ps) is h.ascends);
    }
