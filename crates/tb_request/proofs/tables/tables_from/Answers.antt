use Rattle.std.proofs.Common.{◌≡◌, ◌∙◌, [], ◌∷◌, ◌++◌, map, ap, sym, subst, List, Err}
use Rattle.std.proofs.lemmas.List.{map-append}
use Rattle.tb_chunk.specs.Promise.Col.{Col}
use Rattle.tb_request.specs.declared.request.RequestFault.{RequestFault}
use Rattle.tb_request.specs.declared.request.RequestFault.TheVariants.{NoRequest}
use Rattle.tb_request.specs.Columns.{relaid_column}
use Rattle.tb_request.specs.Lent.{claimed_views}
use Rattle.tb_request.specs.Promise.Reading.{are_tables, FaultIs, IsJudged}
use Rattle.tb_request.proofs.Judged.{one_more, one_more_none}
use Rattle.tb_request.proofs.tables.tables_from.Goals as goal

pub loop-columns-preserved-in-Continue-branch-2 : goal.loop-columns-preserved-in-Continue-branch-2
loop-columns-preserved-in-Continue-branch-2 c =
    let before = map claimed_views c.loop-columns.yielded in
    let more = map-append claimed_views c.loop-columns.yielded (c.in-Some.columns ∷ []) in
    record {
      judged = subst (λ (ts : List (List Col)). IsJudged ts c.loop-columns.fault) (sym more) (one_more before (claimed_views c.in-Some.columns) c.loop-columns.fault c.loop-columns.invariant.judged c.in-Ok.ensures.tables);
      made = λ none.
          ap (map (map relaid_column)) c.in_ok-push-in-Ok.ensures.items
          ∙ map-append (map relaid_column) c.loop-columns.tables.items (c.in-Ok.table ∷ [])
          ∙ (λ i. c.loop-columns.invariant.made none i ++ c.in-Ok.ensures.columns i ∷ [])
          ∙ sym more;
    }

pub loop-columns-preserved : goal.loop-columns-preserved
loop-columns-preserved c =
    let before = map claimed_views c.loop-columns.yielded in
    let more = map-append claimed_views c.loop-columns.yielded (c.in-Some.columns ∷ []) in
    let is = c.in-Err-NoRequest.is in
    let field = c.in-Err-NoRequest.field-0-is in
    let told : c.in-Err-NoRequest.field-0 ≡ NoRequest c.in-Err-NoRequest.reason = cc in
    let none = subst (λ (e : RequestFault). FaultIs e (are_tables (claimed_views c.in-Some.columns ∷ []))) told c.in-Err-NoRequest.ensures.tables in
    record {
      judged =
          ap are_tables more
          ∙ one_more_none before (claimed_views c.in-Some.columns) c.loop-columns.fault c.in-Err-NoRequest.reason c.loop-columns.invariant.judged none
          ∙ ap (λ r. Err r) (sym c.earliest.ensures);
      made = λ none. cc;
    }
