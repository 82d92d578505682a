-- The requests to group a table that bytes are, or the first reason why they are none.
use Rattle.std.specs.Prelude.{ℕ, List, [], ◌∷◌, map, Bool, Result, Ok, ok_or}
use Rattle.serde_json.specs.Data.{Data}
use Rattle.tb_value.specs.Promise.Names.{Name}
use Rattle.tb_chunk.specs.Promise.Col.{Col}
use Rattle.tb_pool.specs.Promise.ExecView.{ExecView}
use Rattle.tb_group.specs.declared.request.GroupAgg.{GroupAgg}
use Rattle.tb_request.specs.declared.request.Reason.{Reason}
use Rattle.tb_request.specs.declared.request.Reason.TheVariants as why
use Rattle.tb_request.specs.Columns.{relaid_column}
use Rattle.tb_request.specs.Promise.Reading.{◌>>=◌, first_table, request_tables, value_of}
use Rattle.tb_group_request.specs.Promise.Written.{group_of}
use Rattle.tb_group_request.specs.declared.request.GroupRequest as rust

pub record GroupRequest : Type 0 where
  pub table : List Col
  pub by : List Name
  pub aggs : List GroupAgg
  pub exec : ExecView
  pub trace : Bool

unfoldable pub group_in : Data → Result GroupRequest Reason
group_in d = do
  written ← ok_or (group_of d) why.Shape
  tables ← request_tables (written.table ∷ []) written.exec
  Ok (record {
    table = first_table tables;
    by = written.by;
    aggs = written.aggs;
    exec = written.exec;
    trace = written.trace;
  })

-- the request that the bytes are, or the first reason why they are none
unfoldable pub group_request_of : List ℕ → Result GroupRequest Reason
group_request_of bytes = value_of bytes >>= group_in

-- what the program's request stands for, wherever the texts of its columns stand
abbrev pub group_view : rust.GroupRequest → GroupRequest
group_view r = record {
  table = map relaid_column r.table;
  by = r.by.items;
  aggs = r.aggs.items;
  exec = r.exec;
  trace = r.trace;
}
