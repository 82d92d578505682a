use Rattle.std.proofs.Common.{◌∙◌}
use Rattle.std.proofs.lemmas.List.{map_push}
use Rattle.tb_chunk.specs.Lent.{lent_columns}
use Rattle.tb_frame.proofs.lookup.push_lent.Goals as goal

pub returns : goal.returns
returns c = (λ t. lent_columns (c.in_ok-push.ensures.items t)) ∙ map_push _ c.args.lent.now.items c.args.column
