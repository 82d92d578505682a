use Rattle.tb_request.proofs.FlagTests.{flag_Decides}
use Rattle.tb_request.proofs.laws.flag_tests.Goals as goal

pub returns : goal.returns
returns c = flag_Decides
