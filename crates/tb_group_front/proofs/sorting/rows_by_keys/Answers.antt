use Rattle.std.proofs.Common.{◌≡◌, ◌∙◌, ap, map}
use Rattle.std.proofs.lemmas.Result.{IfOk-weaker}
use Rattle.tb_frame.specs.Promise.Table.{table_of}
use Rattle.tb_group_front.specs.Promise.Sorted.{rows_by}
use Rattle.tb_group_front.specs.declared.keyed.KeyedRow.{KeyedRow}
use Rattle.tb_group_front.proofs.ByKeys.{keys_decide}
use Rattle.tb_group_front.proofs.sorting.rows_by_keys.Goals as goal

pub returns : goal.returns
returns c =
    let cs = table_of c.args.columns.now in
    IfOk-weaker c.numbers_of.result (λ v. v.items ≡ map (λ (k : KeyedRow). k.row) c.deref.result.now) (λ v. v.items ≡ rows_by cs c.args.height)
    (λ v h. h ∙ ap (map (λ (k : KeyedRow). k.row)) (c.deref.ensures.value ∙ c.in_ok-sort_keyed.ensures) ∙ keys_decide c.args.height cs c.args.rows.items c.requires)
    c.numbers_of.ensures
