use Rattle.std.proofs.Common.{◌∙◌, List, [], Option, None, ap, subst}
use Rattle.std.specs.Prelude.{IfOk}
use Rattle.tb_value.specs.Refusals.{Settles}
use Rattle.tb_value.specs.declared.error.PolarsError.{PolarsError}
use Rattle.tb_value.specs.declared.index.JoinPair.{JoinPair}
use Rattle.tb_chunk.specs.Lent.{lent_columns}
use Rattle.tb_frame.specs.declared.args.JoinArgs.{JoinArgs}
use Rattle.tb_frame.specs.declared.args.JoinType.TheVariants.{Left}
use Rattle.tb_frame.specs.declared.args.MaintainOrderJoin.TheVariants as order
use Rattle.tb_frame.specs.Answer.{IsListed}
use Rattle.tb_frame.specs.Promise.Table.{height, table_of}
use Rattle.tb_pairs.proofs.LeftJoins.{all_causes, all_listing}
use Rattle.tb_pairs.proofs.Requested.{keys_listing}
use Rattle.tb_pairs.proofs.multiple.pairs_by_all_columns.Goals as goal

pub returns-clause-settles : goal.returns-clause-settles
returns-clause-settles g c =
    let ls = lent_columns c.deref.result.now in
    let rs = lent_columns c.deref-2.result.now in
    subst (λ (cause : Option PolarsError). Settles c.listed_pairs.result cause)
    (all_causes c.args.a.now c.args.b.now ls rs (ap lent_columns c.deref.ensures.value ∙ c.in_ok-left_keys.ensures.lent) (ap lent_columns c.deref-2.ensures.value ∙ c.in_ok-right_keys.ensures.lent) c.args.join_nulls [] [] c.new-args.result (ap (λ (x : JoinArgs). x.validation) c.new-args.ensures))
    c.listed_pairs.ensures.settles

pub returns-clause-listed : goal.returns-clause-listed
returns-clause-listed g c =
    let ls = lent_columns c.deref.result.now in
    let rs = lent_columns c.deref-2.result.now in
    let same = all_listing c.args.a.now c.args.b.now ls rs (ap lent_columns c.deref.ensures.value ∙ c.in_ok-left_keys.ensures.lent) (ap lent_columns c.deref-2.ensures.value ∙ c.in_ok-right_keys.ensures.lent) c.args.join_nulls in
    subst (λ (ps : List JoinPair). IfOk c.listed_pairs.result (λ v. IsListed Left order.None None ps v.items)) same
    (subst (λ (x : JoinArgs). IfOk c.listed_pairs.result (λ v. IsListed Left x.maintain_order x.slice (keys_listing (λ p. c.args.join_nulls) Left (height (table_of c.args.a.now)) (height (table_of c.args.b.now)) (table_of ls) (table_of rs)) v.items)) c.new-args.ensures
    c.listed_pairs.ensures.listed)
