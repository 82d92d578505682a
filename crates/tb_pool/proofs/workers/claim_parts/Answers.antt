use Rattle.std.proofs.Common.{◌<◌, ◌++◌, ◌∷◌, [], refl, sym, ap, ◌∙◌, subst}
use Rattle.std.specs.Prelude.{All}
use Rattle.tb_pool.proofs.Worked.{never_past, goes_on}
use Rattle.tb_pool.proofs.workers.claim_parts.Goals as goal

pub claim-requires-clause-early : goal.claim-requires-clause-early
claim-requires-clause-early g c = never_past _ _ _ _ c.loop-part.invariant

pub loop-part-preserved : goal.loop-part-preserved
loop-part-preserved g c = let own = c.in-Some.ensures.own in let d = c.in-Some.ensures.drawn in let t = c.in-Ok.ensures in
    goes_on _ _ _ _ _ c.in-Some.part t.1.0 c.loop-part.invariant own.0 own.1
    (d.1 ∙ ap (λ x. c.loop-part.worker.seat.drawn ++ x ∷ []) (sym d.3.0))
    (subst (λ x. All (λ y. y < x) c.loop-part.worker.seat.drawn) (sym d.3.0) d.2)
    (subst (λ x. x < c.args.claims.now.bound) (sym d.3.0) d.3.1)
    t.0 t.1.2 t.1.1 refl
