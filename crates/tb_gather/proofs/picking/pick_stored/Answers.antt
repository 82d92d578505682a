use Rattle.std.proofs.Common.{◌∙◌, sym}
use Rattle.std.proofs.lemmas.List.{length-map}
use Rattle.tb_gather.proofs.picking.pick_stored.Goals as goal

pub pick_rows-requires-clause-one : goal.pick_rows-requires-clause-one
pick_rows-requires-clause-one g c κs within = sym (length-map c.args.chunks.now g.C.Chunk.shown) ∙ c.requires.one
