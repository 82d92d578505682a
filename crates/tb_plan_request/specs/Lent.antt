-- What the program's values stand for.
use Rattle.std.specs.Prelude.{List, map, option_map}
use Rattle.tb_value.specs.Promise.Names.{Name}
use Rattle.tb_chunk.specs.Promise.Col.{Col}
use Rattle.tb_pivot.specs.Promise.Request.{way_of}
use Rattle.tb_label.specs.Promise.Label.{separator_or}
use Rattle.tb_calls.specs.Promise.Asked.{names_in}
use Rattle.tb_calls.specs.declared.arguments.PivotCall.{PivotCall}
use Rattle.tb_node.specs.declared.tables.NamedTable.{NamedTable}
use Rattle.tb_node.specs.Seen.{tree_of}
use Rattle.tb_plan.specs.Promise.Outcome.{Pivot}
use Rattle.tb_request.specs.Columns.{relaid_column}
use Rattle.tb_request.specs.Lent.{exec_view, written_view}
use Rattle.tb_request.specs.Promise.Written.{Written}
use Rattle.tb_plan_request.specs.declared.request.PlanRequest as rust
use Rattle.tb_plan_request.specs.declared.members.WrittenTable.{WrittenTable}
use Rattle.tb_plan_request.specs.declared.members.WrittenPlan as rust_written
use Rattle.tb_plan_request.specs.Promise.Reading.{PlanRequest}
use Rattle.tb_plan_request.specs.Promise.Written.{WrittenPlan}

abbrev pub pivot_view : PivotCall → Pivot
pivot_view p = record {
  on = p.on.items;
  index = names_in p.index;
  values = names_in p.values;
  sorts = p.sort_columns;
  way = way_of p.agg;
  separator = separator_or p.separator;
}

abbrev pub written_table : WrittenTable → Name × List Written
written_table t = (t.name, map written_view t.columns.items)

abbrev pub written_plan : rust_written.WrittenPlan → WrittenPlan
written_plan w = record {
  tables = map written_table w.tables.items;
  root = tree_of w.root;
  pivot = option_map pivot_view w.pivot;
  push = w.push;
  exec = exec_view w.exec;
}

-- the columns of a table under its name, wherever their texts stand
abbrev pub table_view : NamedTable → Name × List Col
table_view t = (t.name, map relaid_column t.table)

abbrev pub plan_view : rust.PlanRequest → PlanRequest
plan_view r = record {
  tables = map table_view r.tables.items;
  root = tree_of r.root;
  pivot = option_map pivot_view r.pivot;
  push = r.push;
  exec = r.exec;
}
