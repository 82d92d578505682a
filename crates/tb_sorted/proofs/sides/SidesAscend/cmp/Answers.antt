use Rattle.std.proofs.Common.{◌∙◌, ap₂}
use Rattle.std.specs.Ordering.{int_cmp}
use Rattle.tb_sorted.proofs.sides.SidesAscend.cmp.Goals as goal

pub returns-clause-order : goal.returns-clause-order
returns-clause-order g c =
    c.cmp.ensures ∙ g.met.N.WholeCell.ordered c.key.result c.key-2.result ∙ ap₂ int_cmp c.key.ensures c.key-2.ensures
