use Rattle.std.proofs.Common.{◌∙◌, ap, inr, sym}
use Rattle.tb_frame.specs.Promise.Table.{plain_column, table_of}
use Rattle.tb_filter.specs.Promise.Filtered.{may_test}
use Rattle.tb_filter.specs.Seen.{check_of}
use Rattle.tb_plan.proofs.NodeLemmas.{test_given, test_refused}
use Rattle.tb_plan.proofs.made.tested_rows.Goals as goal

pub returns-then-not-may_test : goal.returns-then-not-may_test
returns-then-not-may_test g c =
    inr (test_refused c.args.node (check_of c.args.test.now) (table_of c.args.table.now) (plain_column c.args.column.now)
    (ap (may_test (check_of c.args.test.now)) (sym c.dtype.ensures) ∙ sym c.may_test.ensures ∙ c.if-not-may_test.true))

pub returns-in-Ok : goal.returns-in-Ok
returns-in-Ok g c =
    test_given c.args.node (check_of c.args.test.now) (table_of c.args.table.now) (plain_column c.args.column.now) c.in-Ok.kept
    (ap (may_test (check_of c.args.test.now)) (sym c.dtype.ensures) ∙ sym c.may_test.ensures ∙ c.if-not-may_test.false) c.in-Ok.ensures.rows c.in-Ok.ensures.all
