use Rattle.std.proofs.Common.{arith}
use Rattle.tb_csv.proofs.DigitWalks.{zero_written}
use Rattle.tb_csv.proofs.digits.short_number.Goals as goal

pub returns-in-48 : goal.returns-in-48
returns-in-48 c = zero_written c.args.bytes.now c.in-48.len_below (omega arith)
