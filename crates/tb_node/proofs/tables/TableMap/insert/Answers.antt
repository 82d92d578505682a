use Rattle.std.proofs.Common.{◌∙◌, sym}
use Rattle.tb_node.proofs.ByName.{kept_fresh, kept_there}
use Rattle.tb_node.proofs.tables.TableMap.insert.Goals as goal

pub returns-then-contains_key : goal.returns-then-contains_key
returns-then-contains_key c = kept_there c.args.self.now.tables c.as_str-name.result c.args.table.now c.args.name.now (sym c.contains_key.ensures ∙ c.if-contains_key.true) c.as_str-name.ensures

pub returns : goal.returns
returns c = kept_fresh c.args.self.now.tables c.insert.new.self c.as_str-name.result c.args.table c.args.name.now c.in_ok-insert.ensures.updates (sym c.contains_key.ensures ∙ c.if-contains_key.false) c.as_str-name.ensures
