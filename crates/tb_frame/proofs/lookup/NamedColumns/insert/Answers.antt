use Rattle.std.proofs.Common.{◌∙◌, sym}
use Rattle.tb_frame.proofs.ByName.{kept_fresh, kept_there}
use Rattle.tb_frame.proofs.lookup.NamedColumns.insert.Goals as goal

pub returns-then-contains_key-clause-puts : goal.returns-then-contains_key-clause-puts
returns-then-contains_key-clause-puts c = kept_there c.args.self.now.columns c.as_str-name.result c.args.column.now c.args.name.now (sym c.contains_key.ensures ∙ c.if-contains_key.true) c.as_str-name.ensures

pub returns-clause-puts : goal.returns-clause-puts
returns-clause-puts c = kept_fresh c.args.self.now.columns c.insert.new.self c.as_str-name.result c.args.column c.args.name.now c.in_ok-insert.ensures.updates (sym c.contains_key.ensures ∙ c.if-contains_key.false) c.as_str-name.ensures
