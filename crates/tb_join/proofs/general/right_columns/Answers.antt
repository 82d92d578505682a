use Rattle.std.proofs.Common.{◌≡◌, ◌∙◌, Bool, true, cond, [], map, ap, sym}
use Rattle.std.proofs.lemmas.Result.{IfOk-weaker}
use Rattle.tb_value.specs.declared.index.JoinPair.{JoinPair}
use Rattle.tb_frame.specs.Promise.Naming.{has_right}
use Rattle.tb_frame.specs.Frame.{without_names}
use Rattle.tb_frame.specs.RightColumns.{right_side}
use Rattle.tb_frame.specs.Promise.Table.{table_of, height}
use Rattle.tb_frame.proofs.Filled.{right_within}
use Rattle.tb_gather.specs.Gathered.{gathered_rows}
use Rattle.tb_join.proofs.general.right_columns.Goals as goal

pub side_rows-requires-clause-rows : goal.side_rows-requires-clause-rows
side_rows-requires-clause-rows g c κs within = right_within (height (table_of c.args.request.now.right.now)) c.args.pairs.now c.requires.pairs

pub returns : goal.returns
returns g c =
    let request = c.args.request.now in
    let right = request.right.now in
    let some : has_right request.how ≡ true = sym c.has_right.ensures ∙ c.if-not-has_right.false in
    let side : right ≡ right_side request.how right = sym (ap (λ (b : Bool). cond b right []) some) in
    IfOk-weaker c.side_rows.result _ _ (λ v h. h ∙ (λ t. map (gathered_rows (map (λ (p : JoinPair). p.right) c.args.pairs.now) (c.right_order-sorted.ensures t)) (without_names (c.gone_right-gone.ensures t) (side t)))) c.side_rows.ensures
