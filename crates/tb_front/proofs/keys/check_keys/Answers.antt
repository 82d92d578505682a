use Rattle.std.proofs.Common.{◌≡◌, ◌∙◌, ◌<◌, option_map, ap, arith, length, min}
use mathlib.Core.Logic.{◌⊎◌, inl, inr}
use Rattle.tb_frame.specs.Promise.Join.{column_named}
use Rattle.tb_frame.specs.Promise.Table.{plain_column, table_of}
use Rattle.tb_front.specs.Columns.{lent_column}
use Rattle.tb_front.proofs.Dues.{cause_as}
use Rattle.tb_front.proofs.NoClash.{clash_end, key_passes, key_stops, lent_copied}
use Rattle.tb_front.proofs.keys.check_keys.Goals as goal

pub loop-i-preserved : goal.loop-i-preserved
loop-i-preserved c =
    let l = table_of c.args.left.now in
    let r = table_of c.args.right.now in
    let n = c.index-left_on-i.result in
    let m = c.index-right_on-i.result in
    let low : c.loop-i.i < length c.args.left_on.now = omega (arith, c.loop-i-test.true) in
    let high : c.loop-i.i < length c.args.right_on.now = omega (arith, c.loop-i-test.true) in
    let left : option_map lent_column c.get.result ≡ column_named l n =
    lent_copied c.get.result ∙ ap (option_map plain_column) c.get.ensures ∙ c.in_ok-lefts.ensures n ∙ ap (λ cs. column_named (table_of cs) n) c.get_columns.ensures.columns in
    let right : option_map lent_column c.get-in-loop-i.result ≡ column_named r m =
    lent_copied c.get-in-loop-i.result ∙ ap (option_map plain_column) c.get-in-loop-i.ensures ∙ c.in_ok-rights.ensures m ∙ ap (λ cs. column_named (table_of cs) m) c.get_columns-2.ensures.columns in
    c.loop-i.invariant
    ∙ key_passes l r c.args.left_on.now c.args.right_on.now c.loop-i.i n m low high c.index-left_on-i.is c.index-right_on-i.is (option_map lent_column c.get.result) (option_map lent_column c.get-in-loop-i.result) left right c.in-Ok.ensures

pub returns-in-Err : goal.returns-in-Err
returns-in-Err c =
    let l = table_of c.args.left.now in
    let r = table_of c.args.right.now in
    let n = c.index-left_on-i.result in
    let m = c.index-right_on-i.result in
    let low : c.loop-i.i < length c.args.left_on.now = omega (arith, c.loop-i-test.true) in
    let high : c.loop-i.i < length c.args.right_on.now = omega (arith, c.loop-i-test.true) in
    let left : option_map lent_column c.get.result ≡ column_named l n =
    lent_copied c.get.result ∙ ap (option_map plain_column) c.get.ensures ∙ c.in_ok-lefts.ensures n ∙ ap (λ cs. column_named (table_of cs) n) c.get_columns.ensures.columns in
    let right : option_map lent_column c.get-in-loop-i.result ≡ column_named r m =
    lent_copied c.get-in-loop-i.result ∙ ap (option_map plain_column) c.get-in-loop-i.ensures ∙ c.in_ok-rights.ensures m ∙ ap (λ cs. column_named (table_of cs) m) c.get_columns-2.ensures.columns in
    cause_as _ _ c.in-Err.fault c.loop-i.invariant
    (key_stops l r c.args.left_on.now c.args.right_on.now c.loop-i.i n m low high c.index-left_on-i.is c.index-right_on-i.is (option_map lent_column c.get.result) (option_map lent_column c.get-in-loop-i.result) left right c.in-Err.fault c.in-Err.ensures)

pub returns : goal.returns
returns c =
    let end : c.loop-i.i ≡ min (length c.args.left_on.now) (length c.args.right_on.now) = omega arith in
    c.loop-i.invariant ∙ clash_end (table_of c.args.left.now) (table_of c.args.right.now) c.args.left_on.now c.args.right_on.now c.loop-i.i end
