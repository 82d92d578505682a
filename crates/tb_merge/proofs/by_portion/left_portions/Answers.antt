use Rattle.std.proofs.Common.{◌≡◌, length}
use Rattle.std.proofs.lemmas.Result.{IfOk-weaker}
use Rattle.tb_value.specs.Promise.Pairs.{row_numbers}
use Rattle.tb_pool.proofs.Cover.{portions_count, portions_rows}
use Rattle.tb_merge.specs.RowPairs.{portion_rows}
use Rattle.tb_merge.proofs.by_portion.left_portions.Goals as goal

pub returns : goal.returns
returns c =
    let len = c.args.left_len in
    let n = c.args.workers in
    record {
      count = IfOk-weaker c.portions.result _ (λ v. length v.items ≡ n) (λ v e. portions_count len n v.items e) c.portions.ensures;
      rows = IfOk-weaker c.portions.result _ (λ v. portion_rows v.items ≡ row_numbers len) (λ v e. portions_rows len n v.items c.requires e) c.portions.ensures;
    }
