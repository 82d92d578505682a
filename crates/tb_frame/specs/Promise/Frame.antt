-- Which lists of columns make no table, and what becomes of the columns of a table.
use Rattle.std.specs.Prelude.{◌==◌, Bool, List, length}
use Rattle.std.specs.List.{list_all, filter_map, find}
use Rattle.tb_value.specs.Promise.Names.{Name, same_name}
use Rattle.tb_chunk.specs.Promise.Col.{Col}
use Rattle.tb_frame.specs.Promise.Table.{TableColumn, Table, height}

-- all lists have one length
abbrev pub are_level : Table → Bool
are_level t = list_all (λ (c : TableColumn). length c.values == height t) t

-- the columns of these names, in the order of the names
abbrev pub selected_columns : List Name → List Col → List Col
selected_columns names cs = filter_map (λ n. find (λ (c : Col). same_name c.name n) cs) names
