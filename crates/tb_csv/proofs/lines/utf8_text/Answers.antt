use Rattle.tb_csv.proofs.RecordWalks.{text_cases}
use Rattle.tb_csv.proofs.lines.utf8_text.Goals as goal

pub returns-clause-text : goal.returns-clause-text
returns-clause-text c = (text_cases c.from_utf8.result c.args.field.now _ c.ok.result c.from_utf8.ensures.cases c.ok.ensures.value).0

pub returns-clause-none : goal.returns-clause-none
returns-clause-none c = (text_cases c.from_utf8.result c.args.field.now _ c.ok.result c.from_utf8.ensures.cases c.ok.ensures.value).1
