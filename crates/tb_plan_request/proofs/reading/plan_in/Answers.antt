use Rattle.std.proofs.Common.{◌≡◌, ◌∙◌, Some, List, map, option_map, sym, ap, subst}
use Rattle.std.specs.Prelude.{Ok}
use Rattle.std.specs.List.{zip}
use Rattle.std.proofs.lemmas.Result.{err_from_is_err_and}
use Rattle.tb_tree.specs.View.{view}
use Rattle.tb_request.specs.Columns.{relaid_column}
use Rattle.tb_request.specs.Promise.Reading.{◌>>=◌, FaultIs, request_tables}
use Rattle.tb_request.specs.Promise.Written.{Written}
use Rattle.tb_request.proofs.FromBytes.{fault_passes}
use Rattle.tb_plan_request.specs.Lent.{table_view, written_plan}
use Rattle.tb_plan_request.specs.Promise.Reading.{table_names}
use Rattle.tb_plan_request.specs.Promise.Written.{WrittenPlan, written_of}
use Rattle.tb_plan_request.proofs.PlanRead.{by_tables, made}
use Rattle.tb_plan_request.proofs.reading.plan_in.Goals as goal

pub returns-in_err-tables : goal.returns-in_err-tables
returns-in_err-tables c =
    let w : WrittenPlan = written_plan c.in-Some.written in
    let formed : written_of (view c.args.value) ≡ Some w = sym c.in_ok-written.ensures ∙ ap (option_map written_plan) c.in-Some.is in
    let p = err_from_is_err_and c.from_residual-in_err-tables.result c.from_residual-in_err-tables.ensures.1 in
    let fault = subst (λ (ts : List (List Written)). FaultIs c.in_err-tables.field-0.0 (request_tables ts w.exec)) c.in_ok-names.ensures.columns c.in_err-tables.ensures.tables in
    rw (p.1, p.2) (subst (FaultIs _) (sym (by_tables (view c.args.value) w formed)) (fault_passes _ _ (λ ts. Ok (made w ts)) fault))

pub returns : goal.returns
returns c =
    let w : WrittenPlan = written_plan c.in-Some.written in
    let formed : written_of (view c.args.value) ≡ Some w = sym c.in_ok-written.ensures ∙ ap (option_map written_plan) c.in-Some.is in
    let read = map (map relaid_column) c.in_ok-tables.field-0.tables.items in
    let tables : zip (table_names w.tables) read ≡ map table_view c.in_ok-named_tables.field-0.items = ap (λ ns. zip ns read) (sym c.in_ok-names.ensures.names) ∙ sym c.in_ok-named_tables.ensures in
    by_tables (view c.args.value) w formed
    ∙ ap (λ ts. request_tables ts w.exec >>= λ us. Ok (made w us)) (sym c.in_ok-names.ensures.columns)
    ∙ ap (λ r. r >>= λ ts. Ok (made w ts)) c.in_ok-tables.ensures.tables
    ∙ (λ i. Ok (record { tables = tables i; root = w.root; pivot = w.pivot; push = w.push; exec = sym c.in_ok-tables.ensures.exec i }))
