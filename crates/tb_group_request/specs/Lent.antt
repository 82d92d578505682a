-- What the program's values stand for.
use Rattle.std.specs.Prelude.{map}
use Rattle.tb_request.specs.Lent.{exec_view, written_view}
use Rattle.tb_group_request.specs.Promise.Written as written
use Rattle.tb_group_request.specs.declared.shape.WrittenGroup.{WrittenGroup}

abbrev pub written_group : WrittenGroup → written.WrittenGroup
written_group w = record {
  table = map written_view w.table.items;
  by = w.by.items;
  aggs = w.aggs.items;
  exec = exec_view w.exec;
  trace = w.trace;
}
