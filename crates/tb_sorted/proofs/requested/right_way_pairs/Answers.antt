use Rattle.std.proofs.Common.{List, false, rules, sym, subst, ◌∙◌}
use Rattle.std.specs.Prelude.{IsPermutation, IsSorted}
use Rattle.tb_value.specs.Promise.Pairs.{right_first}
use Rattle.tb_value.specs.Refusals.{Settles}
use Rattle.tb_value.specs.declared.index.JoinPair.{JoinPair}
use Rattle.tb_value.proofs.Probes.{turned_to_right}
use Rattle.tb_chunk.specs.Promise.Col.{values}
use Rattle.tb_frame.specs.declared.args.Direction.{Direction}
use Rattle.tb_frame.specs.declared.args.JoinType.TheVariants.{Right}
use Rattle.tb_frame.specs.Promise.Join.{Ascends}
use Rattle.tb_keys.specs.Promise.Listing.{value_listing}
use Rattle.tb_sorted.proofs.Flagged.{by_left, turned_keys}
use Rattle.tb_sorted.specs.Promise.Keys.{MergeSizes}
use Rattle.tb_sorted.specs.Listed.{IsMergeWithin}
use Rattle.tb_sorted.proofs.Turned.{sizes_turned, too_many_turned, turned_pairs}
use Rattle.tb_sorted.proofs.requested.right_way_pairs.Goals as goal

pub ordered_pairs-requires : goal.ordered_pairs-requires
ordered_pairs-requires c = turned_keys c.args.exec.now c.args.left.now c.args.right.now c.requires

pub returns-in_err-pairs : goal.returns-in_err-pairs
returns-in_err-pairs c =
    let settled = subst (Settles c.from_residual.result) (too_many_turned false (values c.args.left.now) (values c.args.right.now)) (search rules) in
    record { settles = settled; found = search rules; merged = search rules }

pub returns : goal.returns
returns c =
    let us = values c.args.left.now in
    let vs = values c.args.right.now in
    let ps = c.in_ok-pairs.pairs.items in
    let is = sym c.turned-pairs.ensures in
    let h = c.in_ok-pairs.ensures in
    record {
      settles = sym (too_many_turned false us vs) ∙ h.settles;
      found = record {
        permutation = subst (λ (l : List JoinPair). IsPermutation (value_listing false Right us vs) l) is (turned_pairs false us vs ps h.pairs);
        ascends = subst (λ (l : List JoinPair). IsSorted right_first l) is (turned_to_right ps (subst (λ (d : Direction). Ascends d ps) (by_left c.args.exec.now c.args.right.now c.args.left.now c.requires.ordered) h.ascends));
      };
      merged = subst (λ (s : MergeSizes). IsMergeWithin s c.in_ok-pairs.merged) (sizes_turned us vs) h.merged;
    }
