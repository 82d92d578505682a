use Rattle.std.proofs.Common.{◌-◌, length}
use Rattle.tb_csv.proofs.PlainWalks.{AreRowsTo}
use Rattle.tb_csv.proofs.plain.plain_rows.Given as goal

abbrev pub invariant-loop-place : goal.invariant-loop-place
invariant-loop-place l = AreRowsTo l.separator l.width l.text l.place l.height l.spans.items

abbrev pub decreases-loop-place : goal.decreases-loop-place
decreases-loop-place l = length l.text - l.place
