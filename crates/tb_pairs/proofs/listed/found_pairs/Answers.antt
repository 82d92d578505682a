use Rattle.std.proofs.Common.{◌∙◌, Option, ap, arith, subst, sym}
use Rattle.std.specs.Prelude.{IfSome, is_some}
use Rattle.std.specs.Borrow.{Bor}
use Rattle.std.proofs.lemmas.List.{length-map}
use Rattle.std.proofs.lemmas.Result.{err_from_is_err_and}
use Rattle.tb_chunk.specs.Promise.Col.{Col}
use Rattle.tb_frame.specs.Promise.Join.{listing}
use Rattle.tb_keys.specs.Asked.{asked_request}
use Rattle.tb_sorted.specs.Listed.{IsListedIn, IsMergeWithin, requested_sizes}
use Rattle.tb_sorted.specs.declared.pairs.MergedPairs.{MergedPairs}
use Rattle.tb_pairs.proofs.Merged.{merge_allows, merge_refuses}
use Rattle.tb_pairs.proofs.Traces.{merge_traced}
use Rattle.tb_pairs.proofs.listed.found_pairs.Goals as goal

pub returns-in_err-merged : goal.returns-in_err-merged
returns-in_err-merged g c =
    let p = err_from_is_err_and c.from_residual.result c.from_residual.ensures.1 in
    rw (p.1, p.2) (record { settles = merge_refuses c.args.request.now c.args.exec.now c.in_err-merged.field-0.0 c.in_err-merged.ensures.settles; found = tt; let_in = tt })

pub returns-in-Some : goal.returns-in-Some
returns-in-Some g c =
    let r = c.args.request.now in
    let exec = c.args.exec.now in
    let h = c.in_ok-merged.ensures in
    let taken = sym h.taken ∙ ap is_some c.in-Some.is in
    record {
      settles = merge_allows r exec taken h.settles;
      found = record {
        listed = subst (λ (o : Option MergedPairs). IfSome o (λ m. IsListedIn (listing (asked_request r)) m.listed)) c.in-Some.is h.found;
        traced = merge_traced r exec c.in-Some.merged.merged taken (subst (λ (o : Option MergedPairs). IfSome o (λ m. IsMergeWithin (requested_sizes r) m.merged)) c.in-Some.is h.merged);
      };
      let_in = tt;
    }

pub pairs_by_key-requires-clause-hashed : goal.pairs_by_key-requires-clause-hashed
pairs_by_key-requires-clause-hashed g c κs within = sym c.in_ok-merged.ensures.taken ∙ ap is_some c.in_default.is

pub pairs_by_rows-requires-clause-several : goal.pairs_by_rows-requires-clause-several
pairs_by_rows-requires-clause-several g c κs within =
    let left = length-map c.args.request.now.left_keys.now (λ (b : Bor Col). b.now) in
    omega (arith, left, c.requires.alike.some, c.if-request-eq1.false)
