use Rattle.std.proofs.Common.{w64}
use mir.Val.{to_z, of_z}
use Rattle.tb_frame.proofs.Taking.{IsTable-slices}
use Rattle.tb_frame.proofs.frame.DataFrame.slice.Goals as goal

pub invariant_of-result : goal.invariant_of-result
invariant_of-result c = IsTable-slices (to_z w64 (of_z w64 c.args.offset)) c.args.len _ _ _ c.in_ok-slice_columns.ensures c.deref.ensures.value c.self.invariant
