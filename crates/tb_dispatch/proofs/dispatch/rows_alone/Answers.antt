use Rattle.std.proofs.Common.{◌≡◌, map, subst}
use Rattle.std.specs.Prelude.{IfOk}
use Rattle.std.proofs.lemmas.Result.{IfOk-weaker}
use Rattle.tb_value.specs.Promise.Pairs.{left_only}
use Rattle.tb_chunk.specs.Promise.Col.{values}
use Rattle.tb_keys.specs.Promise.Listing.{value_listing}
use Rattle.tb_dispatch.specs.Given.{semi_or_anti}
use Rattle.tb_dispatch.proofs.dispatch.rows_alone.Goals as goal

pub returns : goal.returns
returns g c =
    IfOk-weaker c.only_memory.result _ _ (λ v e. subst (λ r. IfOk r (λ v. map left_only v.items ≡ value_listing c.args.join_nulls (semi_or_anti c.args.anti) (values c.args.s_left.now) (values c.args.s_right.now))) e c.hash_join_semi_anti-answer.ensures.rows) c.only_memory.ensures.value
