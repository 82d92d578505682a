use Rattle.std.proofs.Common.{◌≡◌, ◌∙◌, ◌∷◌, [], ◌*◌, arith, ap}
use Rattle.std.specs.Prelude.{codes}
use Rattle.std.proofs.lemmas.Result.{IfOk-weaker}
use Rattle.tb_frame.specs.Promise.Table.{table_of}
use Rattle.tb_sample.specs.Promise.Sample.{left_table}
use Rattle.tb_sample.proofs.Numbers.{are_typed, column_is, long}
use Rattle.tb_sample.proofs.tables.left_table.Goals as goal

pub number_column-requires-clause-few : goal.number_column-requires-clause-few
number_column-requires-clause-few c = omega (arith, long (λ i. i) c.args.rows _ c.in_ok-row_numbers.ensures, c.requires)

pub number_column-requires-clause-typed : goal.number_column-requires-clause-typed
number_column-requires-clause-typed c = are_typed (λ i. i) c.args.rows _ c.in_ok-row_numbers.ensures (λ i low. omega (arith, c.requires))

pub number_column-requires-2-clause-typed : goal.number_column-requires-2-clause-typed
number_column-requires-2-clause-typed c = are_typed (λ i. 3 * i) c.args.rows _ c.in_ok-triples.ensures (λ i low. omega (arith, c.requires))

pub returns : goal.returns
returns c =
    let n = c.args.rows in
    let key = column_is (λ i. i) n _ c.in_ok-row_numbers.ensures (codes "key") c.in_ok-key.key c.in_ok-key.ensures in
    let v = column_is (λ i. 3 * i) n _ c.in_ok-triples.ensures (codes "v") c.in_ok-v.v c.in_ok-v.ensures in
    IfOk-weaker c.table_of_two.result (λ t. t ≡ c.in_ok-key.key ∷ c.in_ok-v.v ∷ []) (λ t. table_of t ≡ left_table n) (λ t e. ap table_of e ∙ (λ k. key k ∷ v k ∷ [])) c.table_of_two.ensures
