use Rattle.tb_delta.proofs.Given.{has_place}
use Rattle.std.proofs.Common.{◌∙◌, sym, ap}
use Rattle.std.specs.Prelude.{position}
use Rattle.tb_value.specs.Promise.Names.{Name, same_name}
use Rattle.tb_chunk.specs.Promise.Col.{Col}
use Rattle.tb_delta.proofs.making.place_of.Goals as goal

pub unreachable-requires : goal.unreachable-requires
unreachable-requires c = has_place c.args.frame.now c.args.name.now c.requires
    (ap (λ (n : Name). position (λ (x : Col). same_name x.name n) c.args.frame.now) (sym c.as_str.ensures) ∙ sym c.position.ensures ∙ c.in-None.is)
