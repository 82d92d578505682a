use Rattle.std.proofs.Common.{◌-◌, arith, drop, length, take}
use Rattle.tb_csv.proofs.DigitWalks.{below_most, first_written, has_room, more_written, one_more_below}
use Rattle.tb_csv.proofs.digits.counting_number.Goals as goal

pub loop-byte-init : goal.loop-byte-init
loop-byte-init c = record {
  written = first_written c.args.bytes.now c.from-number.result (omega arith) (omega arith) c.from-number.ensures;
  some = omega arith;
  small = omega arith;
}

pub overflow_mul-number : goal.overflow_mul-number
overflow_mul-number c = omega (arith, has_room c.loop-byte.number c.loop-byte.byte-index c.loop-byte.invariant.small (omega arith))

pub overflow_add-number : goal.overflow_add-number
overflow_add-number c = omega (arith, has_room c.loop-byte.number c.loop-byte.byte-index c.loop-byte.invariant.small (omega arith))

pub loop-byte-preserved : goal.loop-byte-preserved
loop-byte-preserved c =
    let n = c.loop-byte.number in
    let k = c.loop-byte.byte-index in
    let room = has_room n k c.loop-byte.invariant.small (omega arith) in
    record {
      written = more_written n c.from.result k (take (length c.args.bytes.now - 1) (drop 1 c.args.bytes.now)) c.args.bytes.now c.loop-byte.invariant.some (omega (arith, room)) (omega arith) (omega arith) c.loop-byte-test.true c.loop-byte.invariant.written;
      some = omega arith;
      small = one_more_below n c.from.result k c.loop-byte.invariant.small (omega arith);
    }

pub returns-clause-small : goal.returns-clause-small
returns-clause-small c = below_most c.loop-byte.number c.loop-byte.byte-index c.loop-byte.invariant.small (omega arith)
