-- What the program has of nodes that are run.
use Rattle.std.specs.Prelude.{List, map}
use Rattle.tb_frame.specs.Promise.Table.{table_of}
use Rattle.tb_plan_front.specs.declared.explaining.NodeTable as rust
use Rattle.tb_plan_front.specs.declared.explaining.NodeLine.{NodeLine}
use Rattle.tb_plan_front.specs.Promise.Explained.{Line, Shown}

abbrev pub line_view : NodeLine → Line
line_view l = record { depth = l.depth; title = l.title; height = l.height }

abbrev pub lines_view : List NodeLine → List Line
lines_view ls = map line_view ls

abbrev pub explained_view : rust.NodeTable → Shown
explained_view e = (table_of e.table, lines_view e.lines.items)
