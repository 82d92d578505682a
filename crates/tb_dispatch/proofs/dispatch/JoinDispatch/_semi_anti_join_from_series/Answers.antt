use Rattle.std.proofs.Common.{◌∙◌, ◌<◌, ℕ, List, map, sym, subst}
use Rattle.std.specs.Prelude.{All}
use Rattle.std.proofs.lemmas.Result.{IfOk-weaker}
use Rattle.tb_chunk.specs.Promise.Col.{Col}
use Rattle.tb_frame.specs.Frame.{taken_rows}
use Rattle.tb_frame.specs.Promise.Join.{IsAnswer, cut}
use Rattle.tb_frame.specs.Promise.Table.{IsTable, height, table_of}
use Rattle.tb_dispatch.specs.Given.{by_match}
use Rattle.tb_dispatch.specs.Rows.{Rise}
use Rattle.tb_dispatch.proofs.Alone.{alone_answer, rise, within}
use Rattle.tb_dispatch.proofs.dispatch.JoinDispatch._semi_anti_join_from_series.Goals as goal

pub _finish_anti_semi_join-requires-clause-rows : goal._finish_anti_semi_join-requires-clause-rows
_finish_anti_semi_join-requires-clause-rows g c κs inside =
    let n = height (table_of (g.Self.IntoDf.frame c.args.self.now)) in
    subst (λ (rows : List ℕ). All (λ r. r < n) rows) (sym c.deref.ensures.value) (within c.args.join_nulls c.args.anti c.args.s_left.now c.args.s_right.now c.in_ok-rows.rows.items c.in_ok-rows.ensures n c.requires.rows)

pub _finish_anti_semi_join-requires-clause-rise : goal._finish_anti_semi_join-requires-clause-rise
_finish_anti_semi_join-requires-clause-rise g c κs inside = subst Rise (sym c.deref.ensures.value) (rise c.args.join_nulls c.args.anti c.args.s_left.now c.args.s_right.now c.in_ok-rows.rows.items c.in_ok-rows.ensures)

pub returns : goal.returns
returns g c =
    let left = g.Self.IntoDf.frame c.args.self.now in
    let q = by_match c.args.anti c.args.join_nulls c.args.slice left c.args.s_left.now c.args.s_right.now in
    let table : IsTable (table_of left) = subst (λ (cs : List Col). IsTable (table_of cs)) c.to_df.ensures c.get_columns-columns.ensures.table in
    IfOk-weaker c._finish_anti_semi_join.result _ _
    (λ t e. subst (λ (cs : List Col). IsAnswer q (table_of cs)) (sym (e ∙ (λ k. map (taken_rows (cut c.args.slice (c.deref.ensures.value k))) left)))
    (alone_answer c.args.join_nulls c.args.anti c.args.s_left.now c.args.s_right.now c.in_ok-rows.rows.items c.in_ok-rows.ensures c.args.slice left table c.requires.rows))
    c._finish_anti_semi_join.ensures
