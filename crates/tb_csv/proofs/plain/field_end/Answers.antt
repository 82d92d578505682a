use Rattle.std.proofs.Common.{arith}
use Rattle.tb_csv.specs.Plain.{is_field_end}
use Rattle.tb_csv.proofs.PlainLanes.{before_low, passes_here, passes_later}
use Rattle.tb_csv.proofs.plain.field_end.Goals as goal

pub overflow_add-end : goal.overflow_add-end
overflow_add-end c =
    let low = before_low (is_field_end c.args.separator) c.args.text.now c.loop-end.end c.bytes_before_end-before.result (omega arith) c.bytes_before_end-before.ensures in
    record { fits = omega arith }

pub returns-then-before-lt-LANES-clause-end : goal.returns-then-before-lt-LANES-clause-end
returns-then-before-lt-LANES-clause-end c =
    let here = passes_here (is_field_end c.args.separator) c.args.text.now c.loop-end.end c.bytes_before_end-before.result (omega arith) c.bytes_before_end-before.ensures (omega arith) in
    omega arith

pub loop-end-preserved : goal.loop-end-preserved
loop-end-preserved c =
    let low = before_low (is_field_end c.args.separator) c.args.text.now c.loop-end.end c.bytes_before_end-before.result (omega arith) c.bytes_before_end-before.ensures in
    let later = passes_later (is_field_end c.args.separator) c.args.text.now c.loop-end.end c.bytes_before_end-before.result (omega arith) c.bytes_before_end-before.ensures (omega arith) in
    record { within = omega arith; before = omega arith }
