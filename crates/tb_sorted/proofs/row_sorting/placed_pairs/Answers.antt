use Rattle.std.proofs.Common.{◌∙◌, List, arith, get_or, length, set, subst, sym, ap}
use Rattle.tb_value.specs.declared.index.JoinPair.{JoinPair}
use Rattle.tb_chunk.specs.Rows.{IsRowOf}
use Rattle.tb_sorted.specs.SortedRows.{numbered_keys, place_on, placed}
use Rattle.tb_sorted.proofs.Turned.{mapped_here, mapped_long, mapped_more}
use Rattle.tb_sorted.proofs.row_sorting.placed_pairs.Goals as goal

pub placed-requires-clause-place : goal.placed-requires-clause-place
placed-requires-clause-place g c κs within =
    let f = placed c.args.side (numbered_keys g.N.WholeCell.number c.args.rows.now) in
    let ps = c.args.pairs.items in
    let i = c.loop-pair.pair-index in
    let d = c.pair-item.result in
    let is = c.loop-pair.invariant in
    let long = ap (λ (l : List JoinPair). length l) is ∙ mapped_long f ps i in
    let low = c.loop-pair-test.true in
    let auto = c.loop-pair.auto in
    subst (λ (p : JoinPair). IsRowOf (length c.args.rows.now) (place_on c.args.side p)) (sym (ap (λ (l : List JoinPair). get_or l i d) is ∙ mapped_here f ps i d)) (c.requires.places i d (omega (arith, long, low, auto)))

pub loop-pair-preserved : goal.loop-pair-preserved
loop-pair-preserved g c =
    let f = placed c.args.side (numbered_keys g.N.WholeCell.number c.args.rows.now) in
    let items = c.loop-pair.pair-items in
    let i = c.loop-pair.pair-index in
    ap (λ (p : JoinPair). set items i p) c.placed.ensures
    ∙ mapped_more f c.args.pairs.items items i c.pair-item.result c.loop-pair.invariant (omega (arith, c.loop-pair-test.true, c.loop-pair.auto))
