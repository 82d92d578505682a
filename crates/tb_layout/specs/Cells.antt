-- The cells of a column.
use Rattle.std.specs.Prelude.{ℕ, Bool, List, if◌then◌else◌}
use Rattle.tb_value.specs.Promise.Datum.{Datum}
use Rattle.tb_value.specs.Promise.Kind.{Kind}
use Rattle.tb_value.specs.Promise.Kind as kind
use Rattle.tb_layout.specs.Promise.Lines.{cell_of, is_number, padded_cell}

-- a type of days, or of no days
abbrev pub kind_by_day : Bool → Kind
kind_by_day is_day = if is_day then kind.date else kind.null

-- what shows a value of the type in a column that is so wide
abbrev pub padded_value : Kind → ℕ → Datum → List ℕ
padded_value k width v = padded_cell (is_number v) width (cell_of k v)
