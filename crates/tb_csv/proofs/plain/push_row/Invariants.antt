use Rattle.tb_csv.proofs.PlainWalks.{IsRowTo}
use Rattle.tb_csv.proofs.plain.push_row.Given as goal

abbrev pub invariant-loop-column : goal.invariant-loop-column
invariant-loop-column l = IsRowTo l.separator l.text l.start l.place l.column l.fn.spans.items l.spans.items
