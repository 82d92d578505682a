-- What is found of the columns that a request names.
use Rattle.std.specs.Prelude.{◌≡◌, ℕ, Bool, List, length}
use Rattle.std.specs.Borrow.{Bor}
use Rattle.std.specs.List.{All}
use Rattle.tb_value.specs.Promise.Names.{Name}
use Rattle.tb_chunk.specs.Promise.Col.{Col, values}
use Rattle.tb_chunk.specs.Lent.{lent_columns}
use Rattle.tb_frame.specs.Promise.Frame.{selected_columns}
use Rattle.tb_frame.specs.Promise.Table.{table_of}
use Rattle.tb_pivot.specs.Promise.Request.{Chosen, Way}
use Rattle.tb_pivot.specs.declared.lookup.WideColumns.{WideColumns}

-- the columns of these names, in the order of the names
pub record AreFound (cs : List Col) (keys rows others : List Name)
    (f : WideColumns) : Type 0 where
  pub on : lent_columns f.on.items ≡ selected_columns keys cs
  pub index : lent_columns f.index.items ≡ selected_columns rows cs
  pub values : lent_columns f.values.items ≡ selected_columns others cs

-- the columns that were found, and what is made of them
abbrev pub chosen_of : ℕ → WideColumns → Bool → Way → Name → Chosen
chosen_of height f sorts way separator = record {
  height = height;
  on = table_of (lent_columns f.on.items);
  index = table_of (lent_columns f.index.items);
  values = table_of (lent_columns f.values.items);
  sorts = sorts;
  way = way;
  separator = separator;
}

-- the columns have as many rows as the table
pub record AreAsHigh (height : ℕ) (f : WideColumns) : Type 0 where
  pub on : All (λ (c : Bor Col). length (values c.now) ≡ height) f.on.items
  pub index : All (λ (c : Bor Col). length (values c.now) ≡ height) f.index.items
  pub values : All (λ (c : Bor Col). length (values c.now) ≡ height) f.values.items
