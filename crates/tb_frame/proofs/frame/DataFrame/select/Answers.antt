use Rattle.std.proofs.Common.{◌≡◌, ◌∙◌, List, ap, subst, sym, Option, None}
use Rattle.tb_value.specs.Promise.Names.{Name}
use Rattle.tb_value.specs.Refusals.{Settles}
use Rattle.tb_value.specs.declared.error.PolarsError.{PolarsError}
use Rattle.tb_value.specs.declared.error.PolarsError.TheVariants.{ColumnNotFound}
use Rattle.tb_chunk.specs.Promise.Col.{Col}
use Rattle.tb_frame.specs.Promise.Table.{table_of, IsTable}
use Rattle.tb_frame.specs.Frame.{frame_refusal, select_refusal}
use Rattle.tb_frame.specs.Promise.Refusal.{first_unknown}
use Rattle.tb_frame.proofs.Causes.{map_none}
use Rattle.tb_frame.proofs.Selected.{select_refused}
use Rattle.tb_frame.proofs.frame.DataFrame.select.Goals as goal

pub returns-clause-settles : goal.returns-clause-settles
returns-clause-settles c =
    let names = c.args.names.now in
    let inside : c.deref.result.now ≡ c.args.self.now = c.deref.ensures.value ∙ c.self.view_is in
    let table : IsTable (table_of c.deref.result.now) = subst (λ (cs : List Col). IsTable (table_of cs)) (sym c.deref.ensures.value) c.self.invariant in
    let known : first_unknown (table_of c.deref.result.now) names ≡ None = map_none (λ (n : Name). ColumnNotFound n) (first_unknown (table_of c.deref.result.now) names) c.in_ok-columns.ensures.settles in
    let same : frame_refusal (table_of c.in_ok-columns.columns.items) ≡ select_refusal names (table_of c.args.self.now) =
    ap (λ (cs : List Col). frame_refusal (table_of cs)) c.in_ok-columns.ensures.columns
    ∙ select_refused names c.deref.result.now table known
    ∙ ap (λ (cs : List Col). select_refusal names (table_of cs)) inside
    in
    subst (λ (o : Option PolarsError). Settles c.new.result o) same c.new.ensures.settles
