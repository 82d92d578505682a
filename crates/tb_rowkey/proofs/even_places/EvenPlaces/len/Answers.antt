use Rattle.std.proofs.Common.{◌+◌, ap, sym, ◌∙◌, length}
use Rattle.tb_rowkey.proofs.Evens.{even_count}
use Rattle.tb_rowkey.proofs.even_places.EvenPlaces.len.Goals as goal

pub returns : goal.returns
returns c = sym (even_count c.self.inside.width (c.self.inside.gaps + 1)) ∙ ap length c.self.view_is
