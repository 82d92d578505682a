use Rattle.std.proofs.Common.{arith}
use Rattle.std.specs.Prelude.{not}
use Rattle.std.specs.List.{list_any}
use Rattle.tb_value.specs.Promise.Pairs.{row_numbers}
use Rattle.tb_frame.specs.Promise.Table.{height}
use Rattle.tb_frame.specs.Promise.Join.{matches}
use Rattle.tb_frame.proofs.Listings.{times-alone, one_of_two}
use Rattle.tb_join.proofs.laws.parts.Goals as goal

pub returns : goal.returns
returns c = λ q i low.
    let semi = times-alone (λ k. list_any (matches q k) (row_numbers (height q.right))) (height q.left) i low in
    let anti = times-alone (λ k. not (list_any (matches q k) (row_numbers (height q.right)))) (height q.left) i low in
    let one = one_of_two (list_any (matches q i) (row_numbers (height q.right))) in
    omega (arith, semi, anti, one)
