-- The text of an array as it grows.
use Rattle.std.specs.Prelude.{ℕ, Bool, true, false, List, [], ◌∷◌, ◌++◌, codes, map}
use Rattle.serde_json.specs.Data.{Data, string, number, unsigned}
use Rattle.serde_json.specs.View.{items_of}
use Rattle.serde_json.specs.Written.{comma_if, compact_text, items_text}
use Rattle.tb_frame.specs.Promise.Table.{TableColumn, Table, height}
use Rattle.tb_json.specs.Promise.Text.{column_data, kind_data}

-- the text of some items, and whether an item stands in it already; the same after further items
abbrev pub with_items : List ℕ × Bool → List Data → List ℕ × Bool
with_items s [] = s
with_items s (d ∷ ds) = with_items (s.0 ++ (comma_if s.1 ++ compact_text d), true) ds

-- the members of a column's object before its values
abbrev pub heading : TableColumn → List ℕ
heading c = codes "{\"name\":" ++ (compact_text (string c.name) ++ (codes ",\"type\":" ++ compact_text (kind_data c.kind)))

-- the members of a table, in an object that is left open
abbrev pub open_table : Table → List ℕ
open_table t = codes "{\"columns\":[" ++ (items_text false (items_of (map column_data t)) ++ (codes ",\"height\":" ++ compact_text (number (unsigned (height t)))))
