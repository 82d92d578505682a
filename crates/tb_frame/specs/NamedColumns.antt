-- Columns that are kept under names.
use Rattle.std.specs.Prelude.{Option}
use Rattle.std.specs.Borrow.{Bor}
use Rattle.std.specs.BTreeMap.{get_by}
use Rattle.std.specs.Cmp.Lexicographic.{slice_cmp}
use Rattle.std.specs.Option.{option_copied}
use Rattle.std.specs.Ordering.{nat_cmp}
use Rattle.tb_value.specs.Promise.Names.{Name}
use Rattle.tb_chunk.specs.Promise.Col.{Col}
use Rattle.tb_frame.specs.declared.lookup.NamedColumns.{NamedColumns}

-- the column under the name
abbrev pub column_by : NamedColumns → Name → Option Col
column_by m n = option_copied (get_by (λ (k : Bor Name). slice_cmp nat_cmp n k.now) m.columns)
