use Rattle.std.proofs.Common.{◌∙◌, ℕ, Option, ap, length, unwrap_or}
use Rattle.tb_value.specs.Promise.Names.{same_name}
use Rattle.tb_node.proofs.Lowering.{position_or_end}
use Rattle.tb_node.proofs.pushing.place_of.Goals as goal

pub returns : goal.returns
returns c =
    c.unwrap_or.ensures ∙ ap (λ (o : Option ℕ). unwrap_or o (length c.args.names.now)) c.position_of.ensures ∙ position_or_end (same_name c.args.name.now) c.args.names.now
