use Rattle.std.proofs.Common.{◌≡◌, ◌++◌, length, take, drop, ap, ◌∙◌, arith, sum_by}
use Rattle.std.proofs.lemmas.Result.{IfOk-weaker}
use Rattle.std.proofs.lemmas.Grind.{common_steps}
use Rattle.tb_pool.specs.declared.workers.Worker.{Worker}
use Rattle.tb_pool.specs.Workers.{IsLetIn}
use Rattle.tb_pool.proofs.Gathers.{all_let_in, done_of_let_in}
use Rattle.tb_pool.proofs.Seated.{same_weights}
use Rattle.tb_pool.proofs.run.run_parts.Goals as goal

pub gather-requires-clause-weights : goal.gather-requires-clause-weights
gather-requires-clause-weights g c κs within =
    let new = c.run_workers.new.workers in
    let old = c.in_ok-workers.workers.items in
    let f = λ (u : Worker g.row.P-Out.Denot). u.seat.weight in
    let whole : take c.in_ok-workers.workers.len (new ++ drop (length new) old) ≡ new = grind (arith, common_steps) in
    let s = c.in_ok-workers.ensures in
    ap (sum_by f) whole ∙ same_weights (IsLetIn (g.G.Gate.lets_in c.args.gate.now) (g.P.Parts.gives c.args.work.now)) c.in_ok-claims.claims c.as_mut_slice.result.now new c.run_workers.auto.workers c.run_workers.ensures ∙ ap (sum_by f) c.as_mut_slice.ensures.value ∙ s.2

pub returns-clause-done : goal.returns-clause-done
returns-clause-done g c = IfOk-weaker c.gather.result _ _ (λ d h. done_of_let_in (g.G.Gate.lets_in c.args.gate.now) (g.P.Parts.gives c.args.work.now) c.args.n _ c.args.exec.now.workers d h (grind (arith, common_steps))) c.gather.ensures.done

pub returns-clause-let_in : goal.returns-clause-let_in
returns-clause-let_in g c = IfOk-weaker c.gather.result _ _ (λ d h. all_let_in (g.G.Gate.lets_in c.args.gate.now) (g.P.Parts.gives c.args.work.now) c.args.n _ d h) c.gather.ensures.done
