use Rattle.std.proofs.Common.{ap, subst}
use Rattle.tb_unpivot.specs.Blocks.{HaveRows, LongParts}
use Rattle.tb_unpivot.proofs.LongParts.{parts_rows}
use Rattle.tb_unpivot.proofs.blocks.LongBlocks.rows.Goals as goal

pub returns-clause-rows : goal.returns-clause-rows
returns-clause-rows c = ap (λ (p : LongParts). p.rows) c.self.view_is

pub returns-clause-level : goal.returns-clause-level
returns-clause-level c = subst HaveRows c.self.view_is (parts_rows _ _ _ _ c.self.invariant)
