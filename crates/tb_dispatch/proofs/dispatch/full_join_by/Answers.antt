use Rattle.std.proofs.Common.{◌≡◌, ◌∙◌, ◌<◌, ◌⊎◌, ◌∷◌, [], length, ap, sym, subst}
use Rattle.tb_value.specs.Promise.Names.{Name}
use Rattle.tb_frame.specs.Promise.Join.{Request, listing, out}
use Rattle.tb_keys.specs.Promise.Answers.{IsJoinUnless}
use Rattle.tb_join.specs.Ready.{CanCoalesceKeys}
use Rattle.tb_dispatch.specs.Given.{paired_refusal}
use Rattle.tb_dispatch.proofs.KeyColumns.{alike_one, can_merge, full_wide, series_is}
use Rattle.tb_dispatch.proofs.dispatch.full_join_by.Goals as goal

pub join_named-requires-clause-alike : goal.join_named-requires-clause-alike
join_named-requires-clause-alike g c κs within = alike_one c.args.s_left.now c.args.s_right.now c.requires.keys.types

pub join_named-requires-clause-wide : goal.join_named-requires-clause-wide
join_named-requires-clause-wide g c κs within =
    subst (λ (q : Request). (0 < length (out q)) ⊎ (listing q ≡ [])) (sym (series_is c.args.left.now c.args.right.now c.args.s_left.now c.args.s_right.now c.args.args.now c.from_ref.result.now c.from_ref-2.result.now (c.from_ref.ensures.value ∙ ap (λ (n : Name). n ∷ []) c.name.ensures) (c.from_ref-2.ensures.value ∙ ap (λ (n : Name). n ∷ []) c.name-2.ensures))) (full_wide c.args.left.now c.args.right.now c.args.s_left.now c.args.s_right.now c.args.args.now c.requires.coalescing)

pub join_named-requires-clause-coalescing : goal.join_named-requires-clause-coalescing
join_named-requires-clause-coalescing g c κs within =
    subst CanCoalesceKeys (sym (series_is c.args.left.now c.args.right.now c.args.s_left.now c.args.s_right.now c.args.args.now c.from_ref.result.now c.from_ref-2.result.now (c.from_ref.ensures.value ∙ ap (λ (n : Name). n ∷ []) c.name.ensures) (c.from_ref-2.ensures.value ∙ ap (λ (n : Name). n ∷ []) c.name-2.ensures))) (can_merge c.args.left.now c.args.right.now c.args.s_left.now c.args.s_right.now c.args.args.now c.requires.coalescing)

pub returns : goal.returns
returns g c =
    subst (λ (q : Request). IsJoinUnless (paired_refusal q) q c.join_named.result) (series_is c.args.left.now c.args.right.now c.args.s_left.now c.args.s_right.now c.args.args.now c.from_ref.result.now c.from_ref-2.result.now (c.from_ref.ensures.value ∙ ap (λ (n : Name). n ∷ []) c.name.ensures) (c.from_ref-2.ensures.value ∙ ap (λ (n : Name). n ∷ []) c.name-2.ensures)) c.join_named.ensures
