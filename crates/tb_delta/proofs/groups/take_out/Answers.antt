use Rattle.std.proofs.Common.{rules, ◌≡◌, ◌∙◌, not, nat_eq}
use Rattle.std.proofs.lemmas.Fn.{filter_same}
use Rattle.std.specs.List.{list_any}
use Rattle.tb_delta.proofs.groups.take_out.Goals as goal

pub returns-in_default : goal.returns-in_default
returns-in_default c = let order = c.requires.in_order in filter_same _ (λ i. not (list_any (nat_eq i) c.args.gone.now)) _ (λ x b f' k. search rules) _ _ c.retain.ensures.filtered
