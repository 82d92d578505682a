use Rattle.std.proofs.Common.{◌∙◌}
use Rattle.tb_csv.proofs.Unquoted.{quote_found}
use Rattle.tb_csv.proofs.marks.has_quote.Goals as goal

pub returns : goal.returns
returns c = c.is_some.ensures ∙ quote_found c.args.text.now c.memchr.result c.memchr.ensures
