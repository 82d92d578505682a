use Rattle.std.proofs.Common.{◌∙◌, ◌∷◌, ap, sym}
use Rattle.std.proofs.lemmas.Result.{err_from_is_err_and}
use Rattle.tb_value.specs.Promise.Refusals.{first_cause}
use Rattle.tb_frame.specs.Promise.Table.{table_of}
use Rattle.tb_group.specs.Promise.Refusal.{group_refusal}
use Rattle.tb_front.specs.Promise.Asked.{table_faults}
use Rattle.tb_front.proofs.Outcomes.{table_settles, table_text}
use Rattle.tb_front.proofs.Steps.{passes}
use Rattle.tb_group_front.specs.Promise.Grouped.{asked_groups, decimal_faults, grouped_table}
use Rattle.tb_group_front.proofs.Faults.{decimals_refused}
use Rattle.tb_group_front.proofs.grouping.grouped_text.Goals as goal

pub returns-in_err-check_decimals-clause-settles : goal.returns-in_err-check_decimals-clause-settles
returns-in_err-check_decimals-clause-settles g c =
    let o = c.args.options.now in
    let call = c.args.call.now in
    let t = table_of c.args.table in
    let p = err_from_is_err_and c.from_residual.result c.from_residual.ensures.1 in
    rw (p.1, p.2) (decimals_refused c.deref.result.now o.csv.types.items call t (table_faults o.form (group_refusal (asked_groups call t)) (grouped_table call t)) _ c.deref.ensures.value c.in_err-check_decimals.ensures)

pub returns-clause-settles : goal.returns-clause-settles
returns-clause-settles g c =
    let o = c.args.options.now in
    let call = c.args.call.now in
    let t = table_of c.args.table in
    passes c.written.result (first_cause (decimal_faults o.csv.types.items call t)) (table_faults o.form (group_refusal (asked_groups call t)) (grouped_table call t))
    (ap (λ types. first_cause (decimal_faults types call t)) (sym c.deref.ensures.value) ∙ c.in_ok-check_decimals.ensures)
    (table_settles o.form o.csv.separator _ _ (group_refusal (asked_groups call t)) (grouped_table call t) c.grouped-outcome.ensures.settles c.grouped-outcome.ensures.table c.written.ensures)

pub returns-clause-answer : goal.returns-clause-answer
returns-clause-answer g c =
    let o = c.args.options.now in
    table_text o.form o.csv.separator _ _ (grouped_table c.args.call.now (table_of c.args.table)) c.grouped-outcome.ensures.table c.written.ensures
