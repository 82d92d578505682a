-- What a request to group a table asks.
use Rattle.std.specs.Prelude.{if◌then◌else◌, Option, Some, None}
use Rattle.tb_frame.specs.Promise.Table.{table_of}
use Rattle.tb_group.specs.Promise.Keys.{GroupedView, group_trace}
use Rattle.tb_group.specs.Promise.Request.{Request}
use Rattle.tb_group_request.specs.Promise.Reading.{GroupRequest}

-- what is asked of the table
abbrev pub asked_groups : GroupRequest → Request
asked_groups r = record { table = table_of r.table; by = r.by; aggs = r.aggs }

-- into which parts the work falls, where that is asked
abbrev pub trace_told : GroupRequest → Option GroupedView
trace_told r = if r.trace then Some (group_trace r.exec (asked_groups r)) else None
