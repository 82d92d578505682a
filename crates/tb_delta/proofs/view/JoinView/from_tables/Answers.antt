use Rattle.std.proofs.Common.{◌∙◌, sym}
use Rattle.std.proofs.lemmas.Result.{err_from_is_err_and}
use Rattle.tb_frame.specs.Promise.Table.{table_of}
use Rattle.tb_delta.specs.Promise.Now.{view_refusal}
use Rattle.tb_delta.specs.Promise.State.{given}
use Rattle.tb_delta.proofs.Given.{as_cause, given_refusal}
use Rattle.tb_delta.proofs.view.JoinView.from_tables.Goals as goal

pub returns-in_err-check_tables-clause-settles : goal.returns-in_err-check_tables-clause-settles
returns-in_err-check_tables-clause-settles c =
    let p = err_from_is_err_and c.from_residual-in_err-check_tables.result c.from_residual-in_err-check_tables.ensures.1 in
    let l = table_of c.args.left.now in
    let r = table_of c.args.right.now in
    rw (p.1, p.2) (as_cause _ _ _
    ((λ t. view_refusal (given l r (sym c.in_ok-left_on.ensures t) (sym c.in_ok-right_on.ensures t) c.args.join_nulls))
    ∙ given_refusal l r c.in_ok-left_on.left_on c.in_ok-right_on.right_on c.args.join_nulls c.get_columns-columns.ensures.table c.get_columns-others.ensures.table)
    c.in_err-check_tables.ensures)

pub returns-clause-settles : goal.returns-clause-settles
returns-clause-settles c =
    let l = table_of c.args.left.now in
    let r = table_of c.args.right.now in
    (λ t. view_refusal (given l r (sym c.in_ok-left_on.ensures t) (sym c.in_ok-right_on.ensures t) c.args.join_nulls))
    ∙ given_refusal l r c.in_ok-left_on.left_on c.in_ok-right_on.right_on c.args.join_nulls c.get_columns-columns.ensures.table c.get_columns-others.ensures.table
    ∙ c.in_ok-check_tables.ensures
