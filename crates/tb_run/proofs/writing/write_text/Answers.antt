use Rattle.std.proofs.Common.{take, arith, ◌++◌, ◌∙◌}
use Rattle.std.proofs.KnownBytes.{Appends-trans}
use Rattle.tb_run.proofs.Moving.{moves_front}
use Rattle.tb_run.proofs.writing.write_text.Goals as goal

pub loop-rest-preserved : goal.loop-rest-preserved
loop-rest-preserved g c =
    let (done, split, appended) = c.loop-rest.invariant.taken in
    let rest = c.loop-rest.rest.now in
    let n = c.in_ok-n.n in
    record {
      taken = (done ++ take n rest, moves_front _ done rest n split, Appends-trans _ _ _ _ _ appended c.in_ok-n.ensures.bytes);
      kept = omega arith;
      count = λ exact. c.in_ok-n.ensures.count.calm exact ∙ c.loop-rest.invariant.count exact;
    }
