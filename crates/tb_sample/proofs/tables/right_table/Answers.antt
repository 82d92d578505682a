use Rattle.std.proofs.Common.{◌≡◌, ◌∙◌, ◌∷◌, [], ◌*◌, ◌%◌, arith, ap}
use Rattle.std.specs.Prelude.{codes}
use Rattle.std.proofs.lemmas.Result.{IfOk-weaker}
use Rattle.tb_frame.specs.Promise.Table.{table_of}
use Rattle.tb_sample.specs.Promise.Sample.{right_table}
use Rattle.tb_sample.proofs.Numbers.{are_typed, column_is, long}
use Rattle.tb_sample.proofs.tables.right_table.Goals as goal

pub number_column-requires-clause-few : goal.number_column-requires-clause-few
number_column-requires-clause-few c = omega (arith, long (λ j. (7 * j) % c.args.rows) c.args.rows _ c.in_ok-right_keys.ensures, c.requires.few)

pub number_column-requires-clause-typed : goal.number_column-requires-clause-typed
number_column-requires-clause-typed c = are_typed (λ j. (7 * j) % c.args.rows) c.args.rows _ c.in_ok-right_keys.ensures (λ i low. omega (arith, c.requires.few))

pub number_column-requires-2-clause-typed : goal.number_column-requires-2-clause-typed
number_column-requires-2-clause-typed c = are_typed (λ i. i) c.args.rows _ c.in_ok-row_numbers.ensures (λ i low. omega (arith, c.requires.few))

pub returns : goal.returns
returns c =
    let n = c.args.rows in
    let key = column_is (λ j. (7 * j) % c.args.rows) n _ c.in_ok-right_keys.ensures (codes "key") c.in_ok-key.key c.in_ok-key.ensures in
    let w = column_is (λ i. i) n _ c.in_ok-row_numbers.ensures (codes "w") c.in_ok-w.w c.in_ok-w.ensures in
    IfOk-weaker c.table_of_two.result (λ t. t ≡ c.in_ok-key.key ∷ c.in_ok-w.w ∷ []) (λ t. table_of t ≡ right_table n) (λ t e. ap table_of e ∙ (λ k. key k ∷ w k ∷ [])) c.table_of_two.ensures
