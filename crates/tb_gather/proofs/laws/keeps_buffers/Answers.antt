use Rattle.std.proofs.Common.{ap, ◌∷◌, []}
use Rattle.tb_frame.specs.Frame.{lens}
use Rattle.tb_gather.proofs.Kept.{buffers-kept}
use Rattle.tb_gather.proofs.laws.keeps_buffers.Goals as goal

pub returns : goal.returns
returns _ c ids sorted = ap (λ bs. bs ∷ []) (buffers-kept (lens c) ids c.view_arrays)
