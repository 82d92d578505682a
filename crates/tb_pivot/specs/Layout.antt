-- What all columns of an answer are laid out by.
use Rattle.std.specs.Prelude.{◌≡◌, ◌≤◌, ℕ, List, [], ◌++◌, length, map, if◌then◌else◌, slice_index_or}
use Rattle.std.specs.Borrow.{Bor}
use Rattle.std.specs.List.{flat_map}
use Rattle.std.specs.Cmp.Lexicographic.{slice_cmp}
use Rattle.std.specs.Ordering.{nat_cmp}
use Rattle.tb_value.specs.Promise.Names.{Name}
use Rattle.tb_value.specs.Promise.Pairs.{row_numbers}
use Rattle.tb_value.specs.declared.limits.TheConstants.{MAX_ROWS}
use Rattle.tb_chunk.specs.Promise.Col.{Col, values}
use Rattle.tb_chunk.specs.Lent.{lent_columns}
use Rattle.tb_chunk.specs.Rows.{value_or_null}
use Rattle.tb_frame.specs.Promise.Table.{Table, TableColumn, by_name, table_of}
use Rattle.tb_rows.specs.Promise.InOrder.{in_order}
use Rattle.tb_rows.specs.Promise.Rows.{row_value}
use Rattle.tb_pivot.specs.Cells.{AreCells, cells_under}
use Rattle.tb_pivot.specs.Promise.Headers.{block_name, header_text}
use Rattle.tb_pivot.specs.Lookup.{AreAsHigh, chosen_of}
use Rattle.tb_pivot.specs.Promise.Pivot.{block, index_column}
use Rattle.tb_pivot.specs.Promise.Request.{Chosen, Way}
use Rattle.tb_pivot.specs.declared.blocks.Layout.{Layout}

-- the texts of the headers of these rows
abbrev pub texts_at : List (Bor Col) → List ℕ → List Name
texts_at on rows =
    map (λ y. header_text (map (λ (c : Bor Col). row_value (values c.now) y) on)) rows

-- the cells of columns that are as high as the table, and the texts of their headers
pub record IsLayout (l : Layout) : Type 0 where
  pub few : l.height ≤ MAX_ROWS
  pub high : AreAsHigh l.height l.columns.now
  pub cells : AreCells l.height (table_of (lent_columns l.columns.now.index.items))
      (table_of (lent_columns l.columns.now.on.items)) l.cells
  pub texts : l.texts.items ≡ texts_at l.columns.now.on.items l.cells.headers.firsts.items

-- what was chosen, for this way of making cells
abbrev pub laid_out : Layout → Way → Chosen
laid_out l way = chosen_of l.height l.columns.now l.sorts way l.separator.now

-- the column of a value column and a header, from one value for each group
abbrev pub header_column : Layout → Col → Col → ℕ → TableColumn
header_column l v made y = record {
  name = block_name (length l.columns.now.values.items) l.separator.now v.name
      (slice_index_or l.texts.items y []);
  kind = made.kind;
  values = map (value_or_null (values made)) (cells_under l.cells y);
}

-- those of all headers
abbrev pub header_columns : Layout → Col → Col → List TableColumn
header_columns l v made = map (header_column l v made) (row_numbers (length l.texts.items))

abbrev pub laid_block : Layout → Col → Col → List TableColumn
laid_block l v made =
    (if l.sorts then in_order by_name (header_columns l v made) else header_columns l v made)

-- the names of the columns of a block
abbrev pub block_names : Layout → Name → List Name
block_names l v =
    let names : List Name = map (block_name (length l.columns.now.values.items) l.separator.now v)
    l.texts.items in
    if l.sorts then in_order (slice_cmp nat_cmp) names else names

-- the names of all columns: those of the index, and then those of each block
abbrev pub answer_names : Layout → List Name
answer_names l = map (λ (c : Bor Col). c.now.name) l.columns.now.index.items
    ++ flat_map (λ (c : Bor Col). block_names l c.now.name) l.columns.now.values.items

-- the columns of the index, and the blocks behind them
abbrev pub index_and_blocks : Chosen → Table
index_and_blocks q = map (index_column q) q.index ++ flat_map (block q) q.values
