use Rattle.std.proofs.Common.{◌+◌, [], ap, arith, length}
use Rattle.tb_frame.specs.Promise.Join.{matches}
use Rattle.tb_frame.specs.Promise.Table.{table_of, height}
use Rattle.tb_keys.specs.Asked.{asked_request}
use Rattle.tb_alone.proofs.FoundRows.{found_few, found_here, matched_count, matched_grow}
use Rattle.tb_alone.proofs.listing.are_too_many.Goals as goal

pub overflow_add-count : goal.overflow_add-count
overflow_add-count c =
    let few = found_few (asked_request c.args.request.now) c.args.found.now c.requires.found c.loop-i.i (omega (arith, c.loop-i-test.true, c.height-i-end.ensures.height)) (record { ref_ptr = (0, 0); now = [] }) in
    omega (arith, few, c.loop-i.invariant.few)

pub returns-then-count-gt-MAX_ROWS : goal.returns-then-count-gt-MAX_ROWS
returns-then-count-gt-MAX_ROWS c is =
    let q = asked_request c.args.request.now in
    let i = c.loop-i.i in
    let l = height (table_of c.args.request.now.left.now) in
    let r = height (table_of c.args.request.now.right.now) in
    let low = c.loop-i-test.true in
    let here = ap length (found_here q c.args.found.now c.requires.found i (omega (arith, low, c.height-i-end.ensures.height)) (record { ref_ptr = (0, 0); now = [] })) in
    let more = matched_count r (matches q) i in
    let grow = matched_grow r (matches q) (i + 1) l (omega (arith, low, c.height-i-end.ensures.height)) in
    omega (arith, here, more, grow, c.loop-i.invariant.count, c.if-count-gt-MAX_ROWS.true)

pub loop-i-preserved : goal.loop-i-preserved
loop-i-preserved c =
    let q = asked_request c.args.request.now in
    let i = c.loop-i.i in
    let r = height (table_of c.args.request.now.right.now) in
    let here = ap length (found_here q c.args.found.now c.requires.found i (omega (arith, c.loop-i-test.true, c.height-i-end.ensures.height)) (record { ref_ptr = (0, 0); now = [] })) in
    let more = matched_count r (matches q) i in
    record { count = omega (arith, here, more, c.loop-i.invariant.count); few = omega (arith, c.if-count-gt-MAX_ROWS.false) }
