use Rattle.std.proofs.Common.{ap, ◌∙◌}
use Rattle.tb_csv.specs.Read.{is_text_field, lent_field}
use Rattle.tb_csv.proofs.NumberWalks.{no_text}
use Rattle.tb_csv.proofs.field_columns.bare_text.Goals as goal

pub returns-in-None-clause-text : goal.returns-in-None-clause-text
returns-in-None-clause-text c = ap (λ f. is_text_field (lent_field f)) c.in-None.is ∙ no_text
