use Rattle.std.proofs.Common.{◌∙◌, List, map, sym, subst, arith}
use Rattle.std.specs.Prelude.{All}
use Rattle.std.proofs.lemmas.Result.{IfOk-weaker}
use Rattle.tb_value.specs.declared.sorted.IsSorted.{IsSorted}
use Rattle.tb_chunk.specs.Promise.Col.{Col}
use Rattle.tb_gather.specs.Gathered.{NameRows, gathered_column}
use Rattle.tb_gather.specs.Ids.{StandInOrder}
use Rattle.tb_dispatch.proofs.dispatch.JoinDispatch.create_left_df_chunked.Goals as goal

pub _take_chunked_unchecked_hor_par-requires-after_bounds : goal._take_chunked_unchecked_hor_par-requires-after_bounds
_take_chunked_unchecked_hor_par-requires-after_bounds g c κs within =
    let named : All (NameRows c.args.chunk_ids.now) c.to_df.result.now = subst (λ (cs : List Col). All (NameRows c.args.chunk_ids.now) cs) (sym c.to_df.ensures) c.requires.named in
    let runs : StandInOrder c.runs-sorted.result c.args.chunk_ids.now = subst (λ (s : IsSorted). StandInOrder s c.args.chunk_ids.now) (sym c.runs-sorted.ensures) c.requires.in_order in
    (omega arith, (c.requires.present, (named, (runs, c.requires.few))))

pub returns : goal.returns
returns g c =
    IfOk-weaker c._take_chunked_unchecked_hor_par.result _ _ (λ t got. got ∙ (λ k. map (gathered_column c.args.chunk_ids.now (c.runs-sorted.ensures k)) (c.to_df.ensures k))) c._take_chunked_unchecked_hor_par.ensures
