use Rattle.tb_value.specs.declared.sorted.IsSorted.TheVariants.{Ascending}
use Rattle.tb_join_tests.proofs.Rising.{rows_ascend}
use Rattle.tb_join_tests.proofs.gathers.rising_ids.Goals as goal

pub returns-then-are_present-clause-in_order : goal.returns-then-are_present-clause-in_order
returns-then-are_present-clause-in_order c =
    c.in_ok-ids.ensures.in_order Ascending (rows_ascend c.some.result c.some-2.result c.some-3.result c.some-4.result c.some.ensures c.some-2.ensures c.some-3.ensures c.some-4.ensures)
