-- A table that is made long, and then wide again.
use Rattle.std.specs.Prelude.{◌≡◌, ◌≢◌, ◌<◌, ◌≤◌, ◌*◌, ℕ, true, false, List, [], ◌∷◌, ◌++◌, length, None, Some}
use Rattle.std.specs.List.{All, AllPairs}
use Rattle.tb_value.specs.Promise.Kind.{Kind}
use Rattle.tb_value.specs.Promise.Names.{Name}
use Rattle.tb_value.specs.declared.limits.TheConstants.{MAX_ROWS}
use Rattle.tb_frame.specs.Promise.Table.{TableColumn, Table, height, names_of, IsTable}
use Rattle.tb_unpivot.specs.Promise.Unpivot.{unpivot_refusal, unpivot_table}
use Rattle.tb_frame.specs.Promise.Join.{columns_named}
use Rattle.tb_unpivot.specs.Promise.Unpivot as long
use Rattle.tb_pivot.specs.Promise.Pivot.{are_alike, pivot_table}
use Rattle.tb_pivot.specs.Promise.Refusal.{pivot_refusal}
use Rattle.tb_pivot.specs.Promise.Request.{one_row}
use Rattle.tb_pivot.specs.Promise.Request as wide

-- the table with columns put one below the other, and the index beside them
abbrev pub long_request : Table → List TableColumn → List TableColumn → Name → Name → long.Request
long_request t index on variable value = record
    { table = t; on = names_of on; index = names_of index; variable = variable; value = value }

abbrev pub made_long : Table → List TableColumn → List TableColumn → Name → Name → Table
made_long t index on variable value = unpivot_table (long_request t index on variable value)

-- a table with the names in one column as headers and the values in another, each the one value of its cell, as they come
abbrev pub wide_request : Table → List TableColumn → Name → Name → Name → wide.Request
wide_request t index variable value separator = record {
  table = t;
  on = variable ∷ [];
  index = Some (names_of index);
  values = Some (value ∷ []);
  sorts = false;
  way = one_row;
  separator = separator;
}

abbrev pub made_wide : Table → List TableColumn → Name → Name → Name → Table
made_wide t index variable value separator =
    pivot_table (wide_request t index variable value separator)

-- columns are the table's under their names, which are distinct
pub record AreOf (t : Table) (cs : List TableColumn) : Type 0 where
  pub found : columns_named t (names_of cs) ≡ cs
  pub distinct : AllPairs (λ (a b : Name). a ≢ b) (names_of cs)

-- index columns that tell all rows apart, columns of one type, and names for the two columns that are made of these
pub record AreUndone (t : Table) (index on : List TableColumn) (k : Kind)
    (variable value : Name) : Type 0 where
  pub table : IsTable t
  pub rows : 0 < height t
  pub of_index : AreOf t index
  pub of_on : AreOf t on
  pub some : 0 < length on
  pub one_kind : All (λ (c : TableColumn). c.kind ≡ k) on
  pub one_row_each : (i j : ℕ) → i < height t → j < height t → are_alike index i j ≡ true → i ≡ j
  pub names : variable ≢ value
  pub no_variable : All (λ (n : Name). n ≢ variable) (names_of index)
  pub no_value : All (λ (n : Name). n ≢ value) (names_of index)

-- what was made long is made wide again as it was
abbrev pub Undone : Type 0
Undone = (t : Table) (index on : List TableColumn) (k : Kind) (variable value separator : Name)
    → AreUndone t index on k variable value
    → made_wide (made_long t index on variable value) index variable value separator ≡ index ++ on

-- moreover there is an index column, all names are distinct together, and there are no more values than a table has rows
pub record AreAccepted (t : Table) (index on : List TableColumn) (k : Kind)
    (variable value : Name) : Type 0 where
  pub undone : AreUndone t index on k variable value
  pub some_index : 0 < length index
  pub apart : AllPairs (λ (a b : Name). a ≢ b) (names_of (index ++ on))
  pub few : height t * length on ≤ MAX_ROWS

-- then neither of the two calls is refused
abbrev pub BothAccepted : Type 0
BothAccepted = (t : Table) (index on : List TableColumn) (k : Kind)
    (variable value separator : Name)
    → AreAccepted t index on k variable value
    → (unpivot_refusal (long_request t index on variable value) ≡ None)
    × (pivot_refusal
    (wide_request (made_long t index on variable value) index variable value separator)
    ≡ None)
