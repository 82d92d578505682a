use Rattle.std.proofs.Common.{◌∙◌, ◌++◌, ap, append-nil, arith, sym}
use Rattle.std.proofs.lemmas.List.{take_all}
use Rattle.tb_value.specs.Promise.Datum.{int, null}
use Rattle.tb_chunk.specs.Chunk.{or_null}
use Rattle.tb_csv.specs.Numbers.{numbers_in}
use Rattle.tb_csv.proofs.JoinedColumns.{pushed_more}
use Rattle.tb_csv.proofs.numbers.Numbers.append.Goals as goal

pub loop-row-init : goal.loop-row-init
loop-row-init c = sym (append-nil (numbers_in c.args.self.now))

pub loop-row-preserved : goal.loop-row-preserved
loop-row-preserved c =
    pushed_more (numbers_in c.args.self.now) (numbers_in c.args.other.now) (numbers_in c.loop-row.self) (numbers_in c.push.new.self) (or_null int c.get.result) null c.loop-row.row
    c.in_ok-push.ensures c.get.ensures (omega arith) c.loop-row.invariant

pub returns : goal.returns
returns c = c.loop-row.invariant ∙ ap (λ l. numbers_in c.args.self.now ++ l) (take_all c.loop-row.row (numbers_in c.args.other.now) (omega arith))
