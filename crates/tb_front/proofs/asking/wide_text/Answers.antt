use Rattle.std.proofs.Common.{◌∙◌, ◌∷◌, ap, sym}
use Rattle.std.proofs.lemmas.Result.{err_from_is_err_and}
use Rattle.tb_value.specs.Promise.Refusals.{first_cause}
use Rattle.tb_frame.specs.Promise.Table.{table_of}
use Rattle.tb_pivot.specs.Promise.Pivot.{pivot_table}
use Rattle.tb_pivot.specs.Promise.Refusal.{pivot_refusal}
use Rattle.tb_calls.specs.Promise.Asked.{wide_of}
use Rattle.tb_front.specs.Promise.Asked.{decimal_faults, table_faults}
use Rattle.tb_front.proofs.Outcomes.{table_settles, table_text}
use Rattle.tb_front.proofs.Steps.{passes}
use Rattle.tb_front.proofs.Undecimal.{decimals_refused}
use Rattle.tb_front.proofs.asking.wide_text.Goals as goal

pub returns-in_err-check_decimals-clause-settles : goal.returns-in_err-check_decimals-clause-settles
returns-in_err-check_decimals-clause-settles g c =
    let o = c.args.options.now in
    let q = wide_of c.args.call (table_of c.args.table) in
    let p = err_from_is_err_and c.from_residual.result c.from_residual.ensures.1 in
    rw (p.1, p.2) (decimals_refused c.deref.result.now o.csv.types.items c.args.call (table_of c.args.table) (table_faults o.form (pivot_refusal q) (pivot_table q)) _ c.deref.ensures.value c.in_err-check_decimals.ensures)

pub returns-clause-settles : goal.returns-clause-settles
returns-clause-settles g c =
    let o = c.args.options.now in
    let t = table_of c.args.table in
    let q = wide_of c.args.call t in
    passes c.written.result (first_cause (decimal_faults o.csv.types.items c.args.call t)) (table_faults o.form (pivot_refusal q) (pivot_table q))
    (ap (λ types. first_cause (decimal_faults types c.args.call t)) (sym c.deref.ensures.value) ∙ c.in_ok-check_decimals.ensures)
    (table_settles o.form o.csv.separator _ _ (pivot_refusal q) (pivot_table q) c.made_wide-outcome.ensures.settles c.made_wide-outcome.ensures.table c.written.ensures)

pub returns-clause-answer : goal.returns-clause-answer
returns-clause-answer g c =
    let o = c.args.options.now in
    table_text o.form o.csv.separator _ _ (pivot_table (wide_of c.args.call (table_of c.args.table))) c.made_wide-outcome.ensures.table c.written.ensures
