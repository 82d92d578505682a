use Rattle.std.proofs.Common.{◌≡◌, ◌+◌, arith}
use Rattle.tb_csv.proofs.JoinedRuns.{run_joined}
use Rattle.tb_csv.proofs.run.Run.append.Goals as goal

pub returns : goal.returns
returns c width rows more mine others =
    let sum : c.in-Some.height ≡ c.args.self.now.height + c.args.other.now.height = omega (arith, c.in-Some.ensures) in
    run_joined width c.args.self.now c.args.other.now c.in-Some.height c.in-Columns-fields.columns c.in-Columns.others c.append_columns.new.columns c.in-Columns-fields.is c.in-Columns.is
    (rw c.deref.ensures.value at c.in_ok-append_columns.ensures) sum rows more mine others
