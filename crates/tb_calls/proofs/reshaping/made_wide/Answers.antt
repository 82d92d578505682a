use Rattle.tb_calls.proofs.Lent.{pivot_settles, pivot_stands}
use Rattle.tb_calls.proofs.reshaping.made_wide.Goals as goal

pub returns-clause-settles : goal.returns-clause-settles
returns-clause-settles c =
    pivot_settles c.args.call c.args.table _ _ _ _ c.deref.ensures.value c.names_given-index.ensures c.names_given-values.ensures c.text_given-separator.ensures _ c.pivot_by.ensures.settles

pub returns-clause-table : goal.returns-clause-table
returns-clause-table c =
    pivot_stands c.args.call c.args.table _ _ _ _ c.deref.ensures.value c.names_given-index.ensures c.names_given-values.ensures c.text_given-separator.ensures _ c.pivot_by.ensures.table
