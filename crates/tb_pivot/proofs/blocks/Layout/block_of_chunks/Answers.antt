use Rattle.std.proofs.Common.{◌≡◌, IfOk, subst}
use Rattle.tb_frame.specs.Promise.Table.{Table, table_of}
use Rattle.tb_pivot.proofs.Columns.{whole_block}
use Rattle.tb_pivot.proofs.blocks.Layout.block_of_chunks.Goals as goal

pub returns : goal.returns
returns c =
    subst (λ (t : Table). IfOk c.block-2.result (λ v. table_of v.items ≡ t)) (whole_block c.args.self.now c.args.value.now c.args.made.now c.in_ok-whole.whole c.in_ok-whole.ensures) c.block-2.ensures
