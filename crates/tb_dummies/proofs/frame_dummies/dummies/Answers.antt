use Rattle.std.proofs.Common.{◌≡◌, ◌∙◌, List, None, ap, subst, sym}
use Rattle.std.specs.Option.{option_copied}
use Rattle.std.proofs.lemmas.Result.{IfOk-weaker, err_from_is_err_and}
use Rattle.tb_value.specs.Refusals.{Settles}
use Rattle.tb_chunk.specs.Promise.Col.{Col}
use Rattle.tb_frame.specs.Promise.Table.{table_of}
use Rattle.tb_dummies.specs.Promise.Dummies.{Request, dummies_table, header_cause, is_replaced}
use Rattle.tb_dummies.specs.Lent.{is_in, lent_request}
use Rattle.tb_dummies.proofs.Refused.{first_stops, in_place_refusal, same_cause, same_places}
use Rattle.tb_dummies.proofs.frame_dummies.dummies.Goals as goal

pub returns-in_err-check_types-clause-settles : goal.returns-in_err-check_types-clause-settles
returns-in_err-check_types-clause-settles c =
    let p = err_from_is_err_and c.from_residual-in_err-check_types.result c.from_residual-in_err-check_types.ensures.1 in
    let same = same_cause (is_in c.in_ok-replaced.replaced.names) (is_replaced (option_copied c.args.columns)) _ (table_of c.args.table.now) c.in_ok-replaced.ensures (ap table_of c.get_columns.ensures.columns) in
    rw (p.1, p.2) (first_stops _ _ _ _ same c.in_err-check_types.ensures)

pub returns-clause-settles : goal.returns-clause-settles
returns-clause-settles c =
    let cs = c.args.table.now in
    let q : Request = lent_request cs (option_copied c.args.columns) c.args.separator c.args.drop_first in
    let is = is_in c.in_ok-replaced.replaced.names in
    let asked = is_replaced (option_copied c.args.columns) in
    let made : table_of c.in_ok-columns.columns.items ≡ dummies_table q = c.in_ok-columns.ensures ∙ same_places is asked _ q.separator c.args.drop_first _ (table_of cs) c.in_ok-replaced.ensures c.given_separator-separator.ensures (ap table_of c.get_columns-2.ensures.columns) in
    let none : header_cause asked (table_of cs) ≡ None = sym (same_cause is asked _ (table_of cs) c.in_ok-replaced.ensures (ap table_of c.get_columns.ensures.columns)) ∙ c.in_ok-check_types.ensures in
    subst (λ o. Settles c.new-2.result o) (in_place_refusal q (table_of c.in_ok-columns.columns.items) c.get_columns.ensures.table made none) c.new-2.ensures.settles

pub returns-clause-table : goal.returns-clause-table
returns-clause-table c =
    let cs = c.args.table.now in
    let q : Request = lent_request cs (option_copied c.args.columns) c.args.separator c.args.drop_first in
    let made : table_of c.in_ok-columns.columns.items ≡ dummies_table q =
    c.in_ok-columns.ensures
    ∙ same_places (is_in c.in_ok-replaced.replaced.names) (is_replaced (option_copied c.args.columns)) _ q.separator c.args.drop_first _ (table_of cs) c.in_ok-replaced.ensures c.given_separator-separator.ensures (ap table_of c.get_columns-2.ensures.columns)
    in
    IfOk-weaker c.new-2.result (λ (t : List Col). t ≡ c.in_ok-columns.columns.items) (λ (t : List Col). table_of t ≡ dummies_table q) (λ t e. ap table_of e ∙ made) c.new-2.ensures.columns
