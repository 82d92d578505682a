-- Tables that are made long some columns at a time.
use Rattle.std.specs.Prelude.{◌≡◌, ◌≤◌, ◌*◌, ◌-◌, ◌++◌, ℕ, List, [], ◌∷◌, drop, length, take, None, refl}
use Rattle.std.specs.Coded.{Coded, code_by, coded×, coded_ℕ, coded_list}
use Rattle.std.specs.List.{All}
use Rattle.tb_value.specs.Promise.Datum.{Datum}
use Rattle.tb_value.specs.Promise.Kind.{Kind}
use Rattle.tb_value.specs.Promise.Names.{Name}
use Rattle.tb_value.specs.Proved.DatumCode.{coded_data}
use Rattle.tb_value.specs.Proved.KindCode.{coded_kind}
use Rattle.tb_value.specs.SeeKind.{kind_of}
use Rattle.tb_value.specs.declared.limits.TheConstants.{MAX_ROWS}
use Rattle.tb_chunk.specs.Promise.Col.{Col, values}
use Rattle.tb_chunk.specs.Lent.{lent_columns}
use Rattle.tb_frame.specs.Promise.Join.{columns_named}
use Rattle.tb_frame.specs.Promise.Refusal.{repeated_among}
use Rattle.tb_frame.specs.Promise.Table.{TableColumn, Table, height, names_of, table_of}
use Rattle.tb_supertype.specs.Columns.{CastsTo}
use Rattle.tb_unpivot.specs.Promise.Unpivot.{Request, long_table, on_columns, value_kind}
use Rattle.tb_unpivot.specs.declared.lookup.LongColumns.{LongColumns}

-- what a table is made long of: the number of its rows, the type of the values, the columns that are put one below the
-- other, those that stay beside them, and the names of the two columns that are made
pub record LongParts : Type 0 where
  pub rows : ℕ
  pub kind : Kind
  pub on : List TableColumn
  pub index : List TableColumn
  pub variable : Name
  pub value : Name

-- what a request asks for
abbrev pub parts_of : Request → LongParts
parts_of q = record {
  rows = height q.table;
  kind = value_kind q;
  on = on_columns q;
  index = columns_named q.table q.index;
  variable = q.variable;
  value = q.value;
}

-- all columns have so many rows
pub record HaveRows (p : LongParts) : Type 0 where
  pub on : All (λ (c : TableColumn). length c.values ≡ p.rows) p.on
  pub index : All (λ (c : TableColumn). length c.values ≡ p.rows) p.index

-- the columns from one place up to another
abbrev pub columns_from_to : ℕ → ℕ → List TableColumn → List TableColumn
columns_from_to first last on = take (last - first) (drop first on)

-- the long table of these alone
abbrev pub block_table : LongParts → ℕ → ℕ → Table
block_table p first last =
    long_table p.kind (columns_from_to first last p.on) p.index p.variable p.value

-- the parts that are found
abbrev pub parts_in : ℕ → LongColumns → Name → Name → LongParts
parts_in rows a variable value = record {
  rows = rows;
  kind = kind_of a.dtype;
  on = table_of (lent_columns a.on.items);
  index = table_of (lent_columns a.index.items);
  variable = variable;
  value = value;
}

-- the names of a long table
abbrev pub long_names : List TableColumn → Name → Name → List Name
long_names index variable value = names_of index ++ variable ∷ value ∷ []

-- all columns have so many rows, their values are few and can be cast, and no name of the long table is repeated
pub record AreLevel (rows : ℕ) (a : LongColumns) (variable value : Name) : Type 0 where
  pub on : All (λ (c : Col). length (values c) ≡ rows) (lent_columns a.on.items)
  pub index : All (λ (c : Col). length (values c) ≡ rows) (lent_columns a.index.items)
  pub few : rows * length (lent_columns a.on.items) ≤ MAX_ROWS
  pub typed : All (CastsTo (kind_of a.dtype)) (lent_columns a.on.items)
  pub distinct : repeated_among
      (long_names (table_of (lent_columns a.index.items)) variable value) ≡ None

-- HOW THE LOGIC STORES THE PARTS

abbrev pub coded_column : Coded TableColumn
coded_column =
    code_by (List ℕ × (Kind × List Datum))
    (coded× (coded_list coded_ℕ) (coded× coded_kind coded_data))
    (λ c. (c.name, (c.kind, c.values))) (λ p. record { name = p.0; kind = p.1.0; values = p.1.1 })
    (λ _. refl)

abbrev pub coded_parts : Coded LongParts
coded_parts =
    code_by (ℕ × (Kind × (List TableColumn × (List TableColumn × (List ℕ × List ℕ)))))
    (coded× coded_ℕ
    (coded× coded_kind
    (coded× (coded_list coded_column)
    (coded× (coded_list coded_column) (coded× (coded_list coded_ℕ) (coded_list coded_ℕ))))))
    (λ p. (p.rows, (p.kind, (p.on, (p.index, (p.variable, p.value))))))
    (λ p. record {
      rows = p.0;
      kind = p.1.0;
      on = p.1.1.0;
      index = p.1.1.1.0;
      variable = p.1.1.1.1.0;
      value = p.1.1.1.1.1;
    })
    (λ _. refl)
