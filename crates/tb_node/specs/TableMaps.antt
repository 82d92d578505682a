-- Tables that are kept under names.
use Rattle.std.specs.Prelude.{List, Option}
use Rattle.std.specs.Borrow.{Bor}
use Rattle.std.specs.BTreeMap.{get_by}
use Rattle.std.specs.Cmp.Lexicographic.{slice_cmp}
use Rattle.std.specs.Option.{option_copied, option_map}
use Rattle.std.specs.Ordering.{nat_cmp}
use Rattle.tb_value.specs.Promise.Names.{Name}
use Rattle.tb_chunk.specs.Promise.Col.{Col}
use Rattle.tb_frame.specs.Promise.Table.{table_of}
use Rattle.tb_node.specs.declared.tables.TableMap.{TableMap}
use Rattle.tb_node.specs.Promise.Tables.{Tables}

-- the columns of the table under the name
abbrev pub columns_under : TableMap → Name → Option (List Col)
columns_under m n = option_copied (get_by (λ (k : Bor Name). slice_cmp nat_cmp n k.now) m.tables)

-- the tables of the map
abbrev pub tables_in : TableMap → Tables
tables_in m n = option_map table_of (columns_under m n)
