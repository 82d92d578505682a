-- The widths of columns, measured in pieces of rows.
use Rattle.std.specs.Prelude.{ℕ, List, ◌*◌, drop, max, min, take}
use Rattle.std.specs.List.{fold}
use Rattle.tb_value.specs.Promise.Datum.{Datum}
use Rattle.tb_value.specs.Promise.Kind.{Kind}
use Rattle.tb_frame.specs.Promise.Table.{TableColumn}
use Rattle.tb_layout.specs.Promise.Characters.{width_of}
use Rattle.tb_layout.specs.Promise.Lines.{cell_of}
use Rattle.tb_pieces.specs.declared.pieces.TheConstants.{ROWS_OF_A_PIECE}

-- the width of the widest cell of these values, or that of the line where it is less
abbrev pub widest_cell : ℕ → Kind → List Datum → ℕ
widest_cell line k vs = min line (fold (λ w v. max w (width_of (cell_of k v))) 0 vs)

-- of the rows of piece p
abbrev pub piece_width : ℕ → TableColumn → ℕ → ℕ
piece_width line c p =
    widest_cell line c.kind (take ROWS_OF_A_PIECE (drop (p * ROWS_OF_A_PIECE) c.values))
