use Rattle.std.proofs.Common.{◌∙◌, ◌<◌, ◌+◌, ◌*◌, get_or, arith}
use Rattle.std.proofs.lemmas.Int.Digits.{digits_more, digits_value_more}
use Rattle.std.specs.Char.{digit_value}
use Rattle.tb_tree.proofs.number.plain_number.Goals as goal

pub loop-byte-preserved : goal.loop-byte-preserved
loop-byte-preserved c =
    let bs = c.args.text.now in
    let i = c.loop-byte.byte-index in
    let digit : digit_value (get_or bs i 0) < 10 = omega (arith, c.in_ok-digit.ensures.0, c.in_ok-digit.ensures.1) in
    record {
      all = digits_more 10 bs i c.loop-byte-test.true c.loop-byte.invariant.all digit;
      number = digits_value_more 10 bs i c.loop-byte-test.true ∙ (λ j. c.loop-byte.invariant.number j * 10 + c.in_ok-digit.ensures.0 j);
    }
