use Rattle.std.proofs.Common.{◌<◌, ◌≤◌, length, refl, arith}
use Rattle.tb_merge.proofs.Rows.{merged_none}
use Rattle.tb_merge.proofs.Portions.{length-covered, rows-all, rows-fit, rows-step}
use Rattle.tb_merge.proofs.by_portion.merge_portions.Goals as goal

pub loop-cut-init : goal.loop-cut-init
loop-cut-init g c =
    record {
      merged = merged_none (g.K.Ascend.left_keys c.args.keys.now) (g.K.Ascend.right_keys c.args.keys.now) c.args.keep_unmatched c.args.pairs.now.items c.requires.none;
      row = refl;
      counted = omega arith;
    }

pub merge_portion-requires-clause-rows : goal.merge_portion-requires-clause-rows
merge_portion-requires-clause-rows g c =
    let cuts = c.args.cuts.now in
    let i = c.loop-cut.cut-index in
    let low : i < length cuts = omega arith in
    let all = length-covered cuts (length (g.K.Ascend.left_keys c.args.keys.now)) c.requires.rows in
    omega (arith, c.loop-cut.invariant.row, rows-step cuts i low, rows-fit cuts i low, all)

pub loop-cut-preserved : goal.loop-cut-preserved
loop-cut-preserved g c =
    let cuts = c.args.cuts.now in
    let i = c.loop-cut.cut-index in
    let low : i < length cuts = omega arith in
    record {
      merged = c.in_ok-at.ensures.merged;
      row = omega (arith, c.in_ok-at.ensures.row, c.loop-cut.invariant.row, rows-step cuts i low);
      counted = omega (arith, c.in_ok-at.ensures.counted, c.loop-cut.invariant.counted);
    }

pub returns-clause-row : goal.returns-clause-row
returns-clause-row g c =
    let cuts = c.args.cuts.now in
    let i = c.loop-cut.cut-index in
    let full : length cuts ≤ i = omega arith in
    let all = length-covered cuts (length (g.K.Ascend.left_keys c.args.keys.now)) c.requires.rows in
    omega (arith, c.loop-cut.invariant.row, rows-all cuts i full, all)
