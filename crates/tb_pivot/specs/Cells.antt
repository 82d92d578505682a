-- Where each cell of the answer finds its value.
use Rattle.std.specs.Prelude.{ℕ, ◌+◌, ◌*◌, List, ◌++◌, length, Option, slice_range}
use Rattle.tb_frame.specs.Promise.Table.{TableColumn}
use Rattle.tb_rows.specs.Grouped.{AreGroups}
use Rattle.tb_pivot.specs.Grid.{grid}
use Rattle.tb_pivot.specs.Promise.Pivot.{are_alike}
use Rattle.tb_pivot.specs.declared.cells.Cells.{Cells}

-- the groups of rows by their index and header, by their index, and by their header
pub record AreCells (height : ℕ) (index on : List TableColumn) (c : Cells) : Type 0 where
  pub groups : AreGroups (are_alike (index ++ on)) height c.groups
  pub rows : AreGroups (are_alike index) height c.rows
  pub headers : AreGroups (are_alike on) height c.headers

-- for each cell its group, header after header
abbrev pub cell_grid : Cells → List (Option ℕ)
cell_grid c = grid c.groups c.rows c.headers

-- for each cell of a header its group, in the order of the answer's rows
abbrev pub cells_under : Cells → ℕ → List (Option ℕ)
cells_under c y =
    let height : ℕ = length c.rows.firsts.items in
    slice_range (cell_grid c) (y * height) (y * height + height)
