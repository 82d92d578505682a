use Rattle.std.proofs.Common.{◌∙◌, ◌++◌, List, map, sym, ap}
use Rattle.std.proofs.lemmas.List.{map_push}
use Rattle.tb_value.specs.Promise.Names.{Name}
use Rattle.tb_request.specs.Lent.{written_views}
use Rattle.tb_request.specs.Promise.Written.{Written}
use Rattle.tb_plan_request.specs.Lent.{written_table}
use Rattle.tb_plan_request.specs.Promise.Reading.{table_columns, table_names}
use Rattle.tb_plan_request.proofs.Beside.{Beside-end, Beside-next}
use Rattle.tb_plan_request.proofs.tables.named_columns.Goals as goal

pub loop-table-init : goal.loop-table-init
loop-table-init c = record {
  names = ap (λ ns. ns ++ table_names (map written_table c.into_iter-table-iterator.result.rest.items)) c.in_ok-names.ensures.items;
  columns = ap (λ cs. map written_views cs ++ table_columns (map written_table c.into_iter-table-iterator.result.rest.items)) c.in_ok-columns.ensures.items;
}

pub loop-table-preserved : goal.loop-table-preserved
loop-table-preserved c = record {
  names = Beside-next (λ (t : Name × List Written). t.0) written_table _ _ _ _ c.in-Some.table _ c.in_ok-push.ensures.items c.in-Some.ensures.steps.0 c.loop-table.invariant.names;
  columns =
      Beside-next (λ (t : Name × List Written). t.1) written_table _ _ _ _ c.in-Some.table _
      (ap (map written_views) c.in_ok-push-2.ensures.items ∙ map_push written_views c.loop-table.columns.items c.in-Some.table.columns)
      c.in-Some.ensures.steps.0 c.loop-table.invariant.columns;
}

pub returns-clause-names : goal.returns-clause-names
returns-clause-names c =
    Beside-end (λ (t : Name × List Written). t.0) written_table c.loop-table.names.items _ _ (sym c.loop-table.table-iterator.rest.ok.0 ∙ c.in-None.ensures.steps.0) c.loop-table.invariant.names
    ∙ ap (λ ts. table_names (map written_table ts)) c.into_iter-table-iterator.ensures.into_iter_gives.0

pub returns-clause-columns : goal.returns-clause-columns
returns-clause-columns c =
    Beside-end (λ (t : Name × List Written). t.1) written_table (map written_views c.loop-table.columns.items) _ _ (sym c.loop-table.table-iterator.rest.ok.0 ∙ c.in-None.ensures.steps.0) c.loop-table.invariant.columns
    ∙ ap (λ ts. table_columns (map written_table ts)) c.into_iter-table-iterator.ensures.into_iter_gives.0
