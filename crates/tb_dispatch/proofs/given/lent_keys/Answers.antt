use Rattle.std.proofs.Common.{◌≡◌, ◌∙◌, List, sym, subst, arith}
use Rattle.std.proofs.lemmas.List.{take_all}
use Rattle.tb_chunk.specs.Promise.Col.{Col}
use Rattle.tb_chunk.specs.Lent.{lent_columns}
use Rattle.tb_frame.specs.Promise.Table.{height, table_of}
use Rattle.tb_keys.specs.Rows.{HasRows}
use Rattle.tb_dispatch.proofs.given.lent_keys.Goals as goal

pub returns-clause-rows : goal.returns-clause-rows
returns-clause-rows c =
    let lent : lent_columns c.loop-key.lent.items ≡ c.args.keys.now = c.loop-key.invariant ∙ take_all c.loop-key.key-index c.args.keys.now (omega arith) in
    subst (λ (cs : List Col). HasRows (height (table_of c.args._table.now)) cs) (sym lent) c.requires
