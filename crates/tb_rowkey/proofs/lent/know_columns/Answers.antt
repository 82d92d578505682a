use Rattle.std.proofs.Common.{Bor, subst, arith}
use Rattle.std.specs.List.{All}
use Rattle.std.proofs.lemmas.List.{take_all}
use Rattle.std.proofs.lemmas.List.Elements.{All-more, All-map}
use Rattle.tb_chunk.specs.Promise.Col.{Col}
use Rattle.tb_chunk.specs.Col.{IsColumn}
use Rattle.tb_rowkey.proofs.lent.know_columns.Goals as goal

pub loop-column-preserved : goal.loop-column-preserved
loop-column-preserved c =
    let P : Bor Col → Type 0 = λ r. IsColumn r.now in
    All-more P c.args.columns.now c.loop-column.column-index c.column-item.result c.loop-column-test.true c.loop-column.invariant
    (subst P c.column-item.is c.len-len.ensures.column)

pub returns : goal.returns
returns c =
    let cs = c.args.columns.now in
    All-map IsColumn (λ (r : Bor Col). r.now) cs
    (subst (All (λ (r : Bor Col). IsColumn r.now)) (take_all c.loop-column.column-index cs (omega arith)) c.loop-column.invariant)
