use Rattle.std.proofs.Common.{◌∙◌, sym}
use Rattle.tb_request.proofs.FlagTests.{flag_Decides}
use Rattle.tb_request.proofs.flags.settled.Goals as goal

pub set_sorted_flag-requires : goal.set_sorted_flag-requires
set_sorted_flag-requires c = (flag_Decides _ _ _).0 (sym c.flag_holds.ensures ∙ c.if-flag_holds.true)
