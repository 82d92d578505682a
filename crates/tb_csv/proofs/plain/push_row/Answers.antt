use Rattle.std.proofs.Common.{arith}
use Rattle.tb_csv.proofs.PlainWalks.{last_full_row, one_field, one_full_row}
use Rattle.tb_csv.proofs.plain.push_row.Goals as goal

pub returns-then-end-text : goal.returns-then-end-text
returns-then-end-text c = record {
  row = last_full_row c.args.separator c.args.text.now c.args.start c.loop-column.column c.args.spans.now.items c.loop-column.spans.items c.push.new.self.items _ c.loop-column.invariant
      c.field_end-end.ensures.end c.in_ok-push.ensures.items c.args.width c.then_some.result c.then_some.ensures c.if-end-text.true c.requires.start;
}

pub returns-then-text-end : goal.returns-then-text-end
returns-then-text-end c = record {
  row = one_full_row c.args.separator c.args.text.now c.args.start c.loop-column.column c.args.spans.now.items c.loop-column.spans.items c.push.new.self.items _ c.loop-column.invariant
      c.field_end-end.ensures.end c.in_ok-push.ensures.items c.args.width c.then_some-then-text-end.result c.then_some-then-text-end.ensures c.if-end-text.false c.if-text-end.true;
}

pub loop-column-preserved : goal.loop-column-preserved
loop-column-preserved c =
    one_field c.args.separator c.args.text.now c.args.start c.loop-column.column c.args.spans.now.items c.loop-column.spans.items c.push.new.self.items _ c.loop-column.invariant
    c.field_end-end.ensures.end c.in_ok-push.ensures.items (omega arith) c.if-text-end.false c.requires.bare
