-- What the program's values stand for.
use Rattle.std.specs.Prelude.{List, map, option_map}
use Rattle.std.specs.declared.alloc.Global.{Global}
use Rattle.std.specs.declared.vec.Vec.{Vec}
use Rattle.serde_json.specs.Data.{Data}
use Rattle.tb_tree.specs.View.{view}
use Rattle.tb_tree.specs.declared.value.Value.{Value}
use Rattle.tb_value.specs.SeeKind.{kind_of}
use Rattle.tb_pool.specs.Promise.ExecView.{ExecView}
use Rattle.tb_chunk.specs.Promise.Col.{Col}
use Rattle.tb_json.specs.Promise.Lists.{list_in}
pub use Rattle.tb_json.specs.Runs.{run_view}
use Rattle.tb_request.specs.declared.shape.ExecNumbers.{ExecNumbers}
use Rattle.tb_request.specs.declared.shape.WrittenColumn.{WrittenColumn}
use Rattle.tb_request.specs.declared.shape.WrittenValues.{WrittenValues}
use Rattle.tb_request.specs.declared.shape.WrittenValues.TheVariants.{Chunks, Runs}
use Rattle.tb_request.specs.declared.shape.WrittenJoin.{WrittenJoin}
use Rattle.tb_request.specs.declared.one_table.WrittenUnpivot.{WrittenUnpivot}
use Rattle.tb_request.specs.declared.one_table.WrittenDummies.{WrittenDummies}
use Rattle.tb_request.specs.declared.one_table.WrittenPivot.{WrittenPivot}
use Rattle.tb_request.specs.declared.values.ClaimedColumn.{ClaimedColumn}
use Rattle.tb_request.specs.Columns.{relaid_column}
use Rattle.tb_request.specs.Promise.Written as written

-- the values of a chunk
abbrev pub chunk_view : Value → List Data
chunk_view v = list_in (view v)

abbrev pub values_view : WrittenValues → written.WrittenValues
values_view (Chunks cs) = written.in_chunks (map chunk_view cs.items)
values_view (Runs rs) = written.in_runs (map run_view rs.items)

abbrev pub written_view : WrittenColumn → written.Written
written_view c =
    record { name = c.name; kind = kind_of c.dtype; values = values_view c.values; flag = c.flag }

abbrev pub written_views : Vec WrittenColumn Global → List written.Written
written_views v = map written_view v.items

abbrev pub exec_view : ExecNumbers → ExecView
exec_view e = record
    { workers = e.workers; partitions = e.partitions; small = e.small; num = e.num; den = e.den }

abbrev pub written_join : WrittenJoin → written.WrittenJoin
written_join w = record {
  args = w.args;
  exec = exec_view w.exec;
  left = map written_view w.left.items;
  left_on = w.left_on.items;
  right = map written_view w.right.items;
  right_on = w.right_on.items;
  trace = w.trace;
}

abbrev pub written_unpivot : WrittenUnpivot → written.WrittenUnpivot
written_unpivot w = record {
  table = map written_view w.table.items;
  on = w.on.items;
  index = w.index.items;
  variable_name = w.variable_name;
  value_name = w.value_name;
}

abbrev pub written_dummies : WrittenDummies → written.WrittenDummies
written_dummies w = record {
  table = map written_view w.table.items;
  columns = option_map (λ v. v.items) w.columns;
  separator = w.separator;
  drop_first = w.drop_first;
}

abbrev pub written_pivot : WrittenPivot → written.WrittenPivot
written_pivot w = record {
  table = map written_view w.table.items;
  on = w.on.items;
  index = option_map (λ v. v.items) w.index;
  values = option_map (λ v. v.items) w.values;
  sort_columns = w.sort_columns;
  agg = w.agg;
  separator = w.separator;
}

-- the column, as if it had the flag that is claimed, wherever its texts stand
abbrev pub claimed_view : ClaimedColumn → Col
claimed_view c = relaid_column (record c.column { flag = c.flag })

abbrev pub claimed_views : Vec ClaimedColumn Global → List Col
claimed_views v = map claimed_view v.items
