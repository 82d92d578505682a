use Rattle.tb_frame.proofs.Cuts.{IsTable-whole}
use Rattle.tb_frame.proofs.frame.DataFrame.as_single_chunk_par.Goals as goal

pub invariant_of-self : goal.invariant_of-self
invariant_of-self c = IsTable-whole _ _ _ c.in_ok-self-inside.ensures c.deref.ensures.value c.self.invariant
