use Rattle.std.proofs.Common.{◌≡◌, ◌≤◌, ◌+◌, ◌++◌, ◌∙◌, ap, arith, length}
use Rattle.tb_csv.specs.Promise.Texts.{body_text}
use Rattle.tb_unpivot.specs.Blocks.{block_table}
use Rattle.tb_front.proofs.LongTexts.{block_more, nothing_more}
use Rattle.tb_front.proofs.long.push_blocks.Goals as goal

pub loop-first-init : goal.loop-first-init
loop-first-init g c = record { within = omega arith; written = nothing_more c.args.separator c.args.blocks.now c.args.text.now }

pub block-requires-clause-order : goal.block-requires-clause-order
block-requires-clause-order g c = omega (arith, c.min.ensures)

pub block-requires-clause-within : goal.block-requires-clause-within
block-requires-clause-within g c = omega (arith, c.min.ensures, c.len-many.ensures, c.loop-first-test.true)

pub loop-first-smaller : goal.loop-first-smaller
loop-first-smaller g c = omega (arith, c.min.ensures, c.len-many.ensures, c.loop-first-test.true, c.columns_of_a_block-width.ensures)

pub loop-first-preserved : goal.loop-first-preserved
loop-first-preserved g c =
    let first = c.loop-first.first in
    let last = c.loop-first.first + c.min.result in
    let order : first ≤ last = omega arith in
    record {
      within = omega (arith, c.min.ensures, c.len-many.ensures, c.loop-first-test.true);
      written = block_more c.args.separator c.args.blocks.now c.rows.ensures.level first last c.args.text.now c.loop-first.text c.push_rows.new.text order c.loop-first.invariant.written
          (c.in_ok-push_rows.ensures ∙ ap (λ t. c.loop-first.text ++ body_text c.args.separator t) c.in_ok-block.ensures);
    }

pub returns : goal.returns
returns g c =
    let all : c.loop-first.first ≡ length c.args.blocks.now.on = omega (arith, c.loop-first.invariant.within, c.loop-first-test.false, c.len-many.ensures) in
    c.loop-first.invariant.written ∙ ap (λ n. c.args.text.now ++ body_text c.args.separator (block_table c.args.blocks.now 0 n)) all
