use Rattle.std.proofs.Common.{◌≡◌, ◌∙◌, map}
use Rattle.std.proofs.lemmas.Result.{IfOk-weaker}
use Rattle.tb_value.specs.declared.index.JoinPair.{JoinPair}
use Rattle.tb_frame.specs.Frame.{without_names}
use Rattle.tb_frame.specs.Promise.Table.{table_of, height}
use Rattle.tb_frame.proofs.Filled.{left_within}
use Rattle.tb_gather.specs.Gathered.{gathered_rows}
use Rattle.tb_keys.specs.Asked.{asked_request}
use Rattle.tb_join.specs.AnswerColumns.{left_part, side_by_side}
use Rattle.tb_join.proofs.general.plain_columns.Goals as goal

pub side_rows-requires-clause-rows : goal.side_rows-requires-clause-rows
side_rows-requires-clause-rows g c κs within = left_within (height (table_of c.args.request.now.left.now)) (height (table_of c.args.request.now.right.now)) c.args.pairs.now c.requires.pairs

pub returns : goal.returns
returns g c =
    let r = c.args.request.now in
    let left : c.in_ok-left.left.items ≡ left_part (asked_request r).args r.left_on.now c.args.pairs.now r.left.now =
    c.in_ok-left.ensures ∙ (λ t. map (gathered_rows (map (λ (p : JoinPair). p.left) c.args.pairs.now) (c.left_order-sorted.ensures t)) (without_names (c.gone_left-gone.ensures t) r.left.now))
    in
    IfOk-weaker c.side_by_side.result _ _ (λ v h. h ∙ (λ t. side_by_side (c.suffix_of.ensures t) (left t) (c.in_ok-right.ensures t))) c.side_by_side.ensures
