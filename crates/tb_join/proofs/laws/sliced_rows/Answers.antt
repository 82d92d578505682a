use Rattle.std.proofs.Common.{refl}
use Rattle.tb_join.proofs.RowProofs.{begins_before, has_no_length, begins_after, ends_after}
use Rattle.tb_join.proofs.laws.sliced_rows.Goals as goal

pub returns : goal.returns
returns c = (begins_before, has_no_length, begins_after, ends_after, refl)
