use Rattle.std.proofs.Common.{sym}
use Rattle.tb_row_join.proofs.Marked.{marked-length}
use Rattle.tb_row_join.proofs.numbers.NumberKeysKeyListI64.len.Goals as goal

pub returns : goal.returns
returns c = sym (marked-length c.args.self.now.numbers.now c.args.self.now.marks.now c.args.self.now.fit)
