use Rattle.std.proofs.Common.{◌≡◌, false, length, List, sym, subst, ◌∙◌}
use Rattle.std.specs.Prelude.{IsSorted}
use Rattle.std.proofs.lemmas.Result.{IfOk-weaker}
use Rattle.tb_value.specs.declared.index.JoinPair.{JoinPair}
use Rattle.tb_value.specs.Promise.Pairs.{row_numbers, left_first}
use Rattle.tb_value.proofs.Ascending.{matched-sorted}
use Rattle.tb_merge.specs.Keys.{keys_match}
use Rattle.tb_merge.specs.RowPairs.{pairs_of}
use Rattle.tb_merge.proofs.Matches.{inner_is}
use Rattle.tb_merge.proofs.merging.merge_inner.Goals as goal

pub returns-clause-order : goal.returns-clause-order
returns-clause-order g c =
    let left = g.K.Ascend.left_keys c.args.keys.now in
    let right = g.K.Ascend.right_keys c.args.keys.now in
    IfOk-weaker c.merge.result
    (λ r. r.0.items ≡ pairs_of left right false (row_numbers (length left)))
    (λ r. IsSorted left_first r.0.items)
    (λ r e. subst (λ (ps : List JoinPair). IsSorted left_first ps) (sym (e ∙ inner_is left right)) (matched-sorted (length left) (length right) (keys_match left right)))
    c.merge.ensures.pairs
