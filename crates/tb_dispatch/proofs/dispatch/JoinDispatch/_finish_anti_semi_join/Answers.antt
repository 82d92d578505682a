use Rattle.std.proofs.Common.{◌<◌, ℕ, List, length, ap, sym, subst, arith}
use Rattle.std.specs.Prelude.{All}
use Rattle.tb_chunk.specs.Promise.Col.{Col}
use Rattle.tb_frame.specs.Promise.Table.{height, table_of}
use Rattle.tb_frame.proofs.Ranges.{All-cut}
use Rattle.tb_dispatch.proofs.Cuts.{cut_short, few_risen}
use Rattle.tb_dispatch.proofs.dispatch.JoinDispatch._finish_anti_semi_join.Goals as goal

pub take-requires-clause-rows : goal.take-requires-clause-rows
take-requires-clause-rows g c =
    let P : List Col → List ℕ → Type 0 = λ cs rows. All (λ r. r < height (table_of cs)) rows in
    subst (λ (cs : List Col). P cs c.kept_part.result.now) (sym c.to_df-table.ensures)
    (subst (λ (rows : List ℕ). P (g.Self.IntoDf.frame c.args.self.now) rows) (sym c.kept_part.ensures) (All-cut (λ r. r < height (table_of (g.Self.IntoDf.frame c.args.self.now))) c.args.slice c.args.idx.now c.requires.rows))

pub take-requires-clause-few : goal.take-requires-clause-few
take-requires-clause-few g c =
    let most = few_risen (height (table_of (g.Self.IntoDf.frame c.args.self.now))) c.args.idx.now c.requires.rise c.requires.rows in
    let short = cut_short c.args.slice c.args.idx.now in
    let table = c.height-height.ensures.short in
    let high = ap (λ (cs : List Col). height (table_of cs)) c.to_df-table.ensures in
    let long = ap (λ (rows : List ℕ). length rows) c.kept_part.ensures in
    omega (arith, most, short, table, c.height-height.ensures.height, high, long)
