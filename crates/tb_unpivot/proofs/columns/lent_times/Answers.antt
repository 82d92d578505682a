use Rattle.std.proofs.Common.{◌∙◌, ◌∷◌, [], ◌++◌, List, ap, refl}
use Rattle.std.proofs.lemmas.List.{replicate_more}
use Rattle.tb_chunk.specs.Promise.Col.{Col}
use Rattle.tb_unpivot.proofs.Lists.{lent_push}
use Rattle.tb_unpivot.proofs.columns.lent_times.Goals as goal

pub loop-i-preserved : goal.loop-i-preserved
loop-i-preserved c =
    let k = c.args.column.now in
    lent_push c.loop-i.lent.items _ _ k c.in_ok-push.ensures.items refl ∙ ap (λ (l : List Col). l ++ k ∷ []) c.loop-i.invariant ∙ replicate_more c.loop-i.i k
