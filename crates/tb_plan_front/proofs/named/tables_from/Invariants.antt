use Rattle.std.proofs.Common.{◌≡◌}
use Rattle.tb_node.specs.Seen.{given_tables}
use Rattle.tb_plan_front.specs.Plans.{given_texts}
use Rattle.tb_front.specs.Promise.Due.{each_from}
use Rattle.tb_plan_front.specs.Promise.Plans.{named_table}
use Rattle.tb_front.proofs.Each.{behind}
use Rattle.tb_plan_front.proofs.named.tables_from.Given as goal

-- the texts that are left decide
abbrev pub invariant-loop-number : goal.invariant-loop-number
invariant-loop-number g l =
    each_from (named_table l.options) 0 (given_texts l.fn.texts.items)
    ≡ behind (given_tables l.tables.items) (each_from (named_table l.options) l.number-iterator.count (given_texts l.number-iterator.iter.rest.items))
