use Rattle.std.proofs.Common.{◌≡◌, true, ℕ, length, List, sym, ap, subst, ◌∙◌}
use Rattle.std.specs.Prelude.{IsSorted, IsPermutation}
use Rattle.std.proofs.lemmas.Result.{IfOk-weaker}
use Rattle.std.proofs.lemmas.List.Sorted.{length_permutation}
use Rattle.tb_value.specs.declared.index.JoinPair.{JoinPair}
use Rattle.tb_value.specs.Promise.Pairs.{row_numbers, left_first}
use Rattle.tb_value.proofs.Probes.{each_left, each_left-permutation, each_left-sorted}
use Rattle.tb_merge.specs.Faults.{SettlesCount}
use Rattle.tb_merge.specs.Keys.{keys_match, left_listing}
use Rattle.tb_merge.specs.RowPairs.{pairs_of}
use Rattle.tb_merge.proofs.Matches.{left_is}
use Rattle.tb_merge.proofs.merging.merge_left.Goals as goal

pub returns-clause-settles : goal.returns-clause-settles
returns-clause-settles g c =
    let left = g.K.Ascend.left_keys c.args.keys.now in
    let right = g.K.Ascend.right_keys c.args.keys.now in
    let m = keys_match left right in
    let long = length_permutation (left_listing left right) (each_left (length left) (length right) m) (each_left-permutation (length left) (length right) m) in
    let same = ap (λ (ps : List JoinPair). length ps) (left_is left right) in
    subst (λ (n : ℕ). SettlesCount c.merge.result n) (same ∙ long) c.merge.ensures.settles

pub returns-clause-pairs : goal.returns-clause-pairs
returns-clause-pairs g c =
    let left = g.K.Ascend.left_keys c.args.keys.now in
    let right = g.K.Ascend.right_keys c.args.keys.now in
    IfOk-weaker c.merge.result
    (λ r. r.0.items ≡ pairs_of left right true (row_numbers (length left)))
    (λ r. IsPermutation (left_listing left right) r.0.items)
    (λ r e. subst (λ (ps : List JoinPair). IsPermutation (left_listing left right) ps) (sym (e ∙ left_is left right)) (each_left-permutation (length left) (length right) (keys_match left right)))
    c.merge.ensures.pairs

pub returns-clause-order : goal.returns-clause-order
returns-clause-order g c =
    let left = g.K.Ascend.left_keys c.args.keys.now in
    let right = g.K.Ascend.right_keys c.args.keys.now in
    IfOk-weaker c.merge.result
    (λ r. r.0.items ≡ pairs_of left right true (row_numbers (length left)))
    (λ r. IsSorted left_first r.0.items)
    (λ r e. subst (λ (ps : List JoinPair). IsSorted left_first ps) (sym (e ∙ left_is left right)) (each_left-sorted (length left) (length right) (keys_match left right)))
    c.merge.ensures.pairs
