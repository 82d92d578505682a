-- The members of a request to group a table, whose values aren't read yet.
use Rattle.std.specs.Prelude.{List, Bool, Option, Some, codes}
use Rattle.serde_json.specs.Data.{Data}
use Rattle.serde_json.specs.Find.{get}
use Rattle.tb_value.specs.Promise.Names.{Name}
use Rattle.tb_pool.specs.Promise.ExecView.{ExecView}
use Rattle.tb_group.specs.declared.request.GroupAgg.{GroupAgg}
use Rattle.tb_json.specs.Promise.Lists.{◌>>=◌, check, list_of, has_only}
use Rattle.tb_request.specs.Promise.Members.{names_of}
use Rattle.tb_request.specs.Promise.Written.{Written, agg_named, exec_of, format_of, name_at, table_at, texts_at, truth_at}
use Rattle.tb_group_request.specs.Promise.Members.{agg_members, group_members}

pub record WrittenGroup : Type 0 where
  pub table : List Written
  pub by : List Name
  pub aggs : List GroupAgg
  pub exec : ExecView
  pub trace : Bool

-- a column that is made: what is made, of which column, and how it is called
unfoldable pub agg_in : Data → Option GroupAgg
agg_in d = do
  known ← check (has_only (names_of agg_members) d)
  agg ← name_at (codes "agg") d >>= agg_named
  column ← name_at (codes "column") d
  name ← name_at (codes "name") d
  Some (record { column = column; agg = agg; name = name })

unfoldable pub group_of : Data → Option WrittenGroup
group_of d = do
  known ← check (has_only (names_of group_members) d)
  format ← format_of d
  table ← table_at format (codes "table") d
  by ← texts_at (codes "by") d
  aggs ← get (codes "aggs") d >>= list_of agg_in
  exec ← exec_of d
  trace ← truth_at (codes "trace") d
  Some (record { table = table; by = by; aggs = aggs; exec = exec; trace = trace })
