use Rattle.std.proofs.Common.{ap, sym, ◌∙◌}
use Rattle.std.specs.Prelude.{◌&&◌}
use Rattle.tb_frame.specs.Promise.Table.{table_of}
use Rattle.tb_front.specs.Promise.Asked.{compares, makes_cells}
use Rattle.tb_front.specs.declared.fault.Comparison.TheVariants.{LeastOrGreatest}
use Rattle.tb_front.proofs.Undecimal.{first_none}
use Rattle.tb_front.proofs.pivoting.check_cells.Goals as goal

pub returns-then-not-compares : goal.returns-then-not-compares
returns-then-not-compares c =
    let call = c.args.call.now in
    first_none c.args.types.now LeastOrGreatest (λ n. compares call.agg && makes_cells call n) (table_of c.args.table.now)
    (λ n. ap (λ b. b && makes_cells call n) (sym c.compares.ensures ∙ c.if-not-compares.true))
