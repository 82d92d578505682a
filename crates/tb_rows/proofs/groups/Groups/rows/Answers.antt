use Rattle.std.proofs.Common.{◌∙◌, arith}
use Rattle.tb_rows.proofs.OwnRows.{group_at, group_count}
use Rattle.tb_rows.proofs.groups.Groups.rows.Goals as goal

pub rows-requires : goal.rows-requires
rows-requires c = omega (arith, c.requires, group_count c.args.self.now.members c.args.self.now.numbers.items _ c.args.self.now.whole)

pub returns : goal.returns
returns c = c.rows.ensures ∙ group_at c.args.self.now.members c.args.self.now.numbers.items _ c.args.group c.args.self.now.whole c.requires
