use Rattle.std.proofs.Common.{arith, subst}
use Rattle.tb_run.specs.Ends.{AppendsPart}
use Rattle.tb_run.proofs.Pieces.{at_error, part_taken}
use Rattle.tb_run.proofs.writing.write_pieces.Goals as goal

pub returns-in_err-write_text-clause-part : goal.returns-in_err-write_text-clause-part
returns-in_err-write_text-clause-part g c = at_error _ (part_taken c.args.pieces.now c.loop-piece.piece-index c.piece-item.result (omega arith) c.piece-item.is _ _ _ c.loop-piece.invariant.taken (subst (AppendsPart _ _) c.deref.ensures.value c.in_err-write_text.ensures.part))
