use Rattle.std.proofs.Common.{◌≡◌, take, map}
use Rattle.tb_rowkey.specs.FieldColumns.{joined_if_cut}
use Rattle.tb_group.specs.Asked.{source_columns}
use Rattle.tb_group.proofs.whole.joined_sources.Given as goal

abbrev pub invariant-loop-one : goal.invariant-loop-one
invariant-loop-one l = l.all.items ≡ map joined_if_cut (source_columns (take l.one-index l.made))
