use Rattle.std.proofs.Common.{length}
use Rattle.std.proofs.lemmas.Result.{err_from_is_err_and}
use Rattle.tb_merge.proofs.Portions.{all_fit, all_listed, all_matched, covered}
use Rattle.tb_merge.proofs.merging.merge.Goals as goal

pub merge_portions-requires-clause-rows : goal.merge_portions-requires-clause-rows
merge_portions-requires-clause-rows g c κs within =
    covered c.as_slice.result.now c.in_ok-cuts.cuts.items c.left_len-left_len.result (length (g.K.Ascend.left_keys c.args.keys.now)) c.as_slice.ensures.value c.in_ok-cuts.ensures.rows c.left_len-left_len.ensures

pub returns-in_err-end-clause-settles : goal.returns-in_err-end-clause-settles
returns-in_err-end-clause-settles g c =
    let p = err_from_is_err_and c.from_residual-in_err-end.result c.from_residual-in_err-end.ensures.1 in
    rw (p.1, p.2) c.in_err-end.ensures.gives_up

pub returns-clause-settles : goal.returns-clause-settles
returns-clause-settles g c =
    all_fit (g.K.Ascend.left_keys c.args.keys.now) (g.K.Ascend.right_keys c.args.keys.now) c.args.keep_unmatched c.merge_portions.new.pairs.items c.in_ok-end.end c.in_ok-end.ensures.merged c.in_ok-end.ensures.row

pub returns-clause-pairs : goal.returns-clause-pairs
returns-clause-pairs g c =
    all_listed (g.K.Ascend.left_keys c.args.keys.now) (g.K.Ascend.right_keys c.args.keys.now) c.args.keep_unmatched c.merge_portions.new.pairs.items c.in_ok-end.end c.in_ok-end.ensures.merged c.in_ok-end.ensures.row

pub returns-clause-merged : goal.returns-clause-merged
returns-clause-merged g c =
    record {
      left_len = c.left_len-left_len.ensures;
      right_len = c.right_len-right_len.ensures;
      pairs = all_matched (g.K.Ascend.left_keys c.args.keys.now) (g.K.Ascend.right_keys c.args.keys.now) c.args.keep_unmatched c.merge_portions.new.pairs.items c.in_ok-end.end c.in_ok-end.ensures.merged c.in_ok-end.ensures.row;
    }
