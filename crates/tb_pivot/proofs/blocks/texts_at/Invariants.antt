use Rattle.std.proofs.Common.{◌≡◌, take}
use Rattle.tb_pivot.specs.Layout.{texts_at}
use Rattle.tb_pivot.proofs.blocks.texts_at.Given as goal

abbrev pub invariant-loop-row : goal.invariant-loop-row
invariant-loop-row l = l.texts.items ≡ texts_at l.columns (take l.row-index l.rows)
