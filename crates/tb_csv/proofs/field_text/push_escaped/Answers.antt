use Rattle.std.proofs.Common.{arith}
use Rattle.tb_csv.proofs.EscapeWalks.{escaped_byte, escaped_end, escaped_none, escaped_quote}
use Rattle.tb_csv.proofs.field_text.push_escaped.Goals as goal
use Rattle.tb_csv.proofs.field_text.push_escaped.Goals.{else-byte-eq34, then-byte-eq34+in_ok-push}

pub loop-byte-init : goal.loop-byte-init
loop-byte-init c separator = escaped_none separator c.args.text.now.items

pub loop-byte-preserved : goal.loop-byte-preserved
loop-byte-preserved c separator = elim c.if-byte-eq34.branch [
  | then-byte-eq34+in_ok-push w ↦
      escaped_quote separator _ _ _ _ c.args.field.now c.loop-byte.byte-index c.loop-byte-test.true w.if-byte-eq34.true w.in_ok-push.ensures.items (rw w.text-is at c.in_ok-push-2.ensures.items) (c.loop-byte.invariant separator)
  | else-byte-eq34 w ↦
      escaped_byte separator _ _ _ c.args.field.now c.loop-byte.byte-index c.loop-byte-test.true w.if-byte-eq34.false (rw w.text-is at c.in_ok-push-2.ensures.items) (c.loop-byte.invariant separator)
]

pub returns : goal.returns
returns c separator = escaped_end separator _ _ c.args.field.now c.loop-byte.byte-index (omega arith) (c.loop-byte.invariant separator)
