-- What is found of the columns that a request names.
use Rattle.std.specs.Prelude.{◌≡◌, ◌≤◌, ◌*◌, List, length, Ok}
use Rattle.tb_value.specs.Promise.Kind as kind
use Rattle.tb_value.specs.Promise.Names.{Name}
use Rattle.tb_value.specs.SeeKind.{kind_of}
use Rattle.tb_value.specs.declared.limits.TheConstants.{MAX_ROWS}
use Rattle.tb_chunk.specs.Promise.Col.{Col}
use Rattle.tb_chunk.specs.Lent.{lent_columns}
use Rattle.tb_frame.specs.Promise.Frame.{selected_columns}
use Rattle.tb_frame.specs.Promise.Table.{height, table_of}
use Rattle.tb_unpivot.specs.Promise.Unpivot.{common_kind}
use Rattle.tb_unpivot.specs.declared.lookup.LongColumns.{LongColumns}

-- the columns, and their common type
pub record IsAsked (cs : List Col) (names others : List Name) (a : LongColumns) : Type 0 where
  pub on : lent_columns a.on.items ≡ selected_columns names cs
  pub index : lent_columns a.index.items ≡ selected_columns others cs
  pub kind : common_kind kind.null (table_of (selected_columns names cs)) ≡ Ok (kind_of a.dtype)
  pub few : height (table_of cs) * length (selected_columns names cs) ≤ MAX_ROWS
