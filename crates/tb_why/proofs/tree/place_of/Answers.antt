use Rattle.std.proofs.Common.{◌∙◌, sym}
use Rattle.tb_request.proofs.FromBytes.{text_read}
use Rattle.tb_why.proofs.tree.place_of.Goals as goal

pub unreachable-requires : goal.unreachable-requires
unreachable-requires c =
    let e = sym c.requires ∙ text_read _ _ c.in-Ok.ensures.ok.0 c.in-Ok.ensures.ok.1 in
    cc
