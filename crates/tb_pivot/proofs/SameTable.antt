-- Columns that make the same table, whatever their chunks are.
use Rattle.std.proofs.Common.{◌≡◌, ◌∙◌, ℕ, Bool, List, length, map, sym, ap, subst, arith}
use Rattle.std.specs.Borrow.{Bor}
use Rattle.std.specs.List.{All}
use Rattle.std.proofs.lemmas.List.{get_or-map, length-map}
use Rattle.std.proofs.lemmas.List.Elements.{All-map, All-same}
use Rattle.tb_value.specs.Promise.Names.{Name}
use Rattle.tb_chunk.specs.Promise.Col.{Col}
use Rattle.tb_chunk.specs.Lent.{in_one_chunk, lent_columns}
use Rattle.tb_frame.specs.Promise.Table.{TableColumn, plain_column, table_of}
use Rattle.tb_frame.proofs.Cuts.{table-whole}
use Rattle.tb_pivot.specs.Lookup.{AreAsHigh, chosen_of}
use Rattle.tb_pivot.specs.Promise.Request.{Way}
use Rattle.tb_pivot.specs.declared.lookup.WideColumns.{WideColumns}
use Rattle.tb_pivot.proofs.Texts.{map_twice}

lent_plain : (cs : List (Bor Col)) → table_of (lent_columns cs) ≡ map (λ (c : Bor Col). plain_column c.now) cs
lent_plain cs = map_twice plain_column (λ (c : Bor Col). c.now) cs

-- what holds of the columns of a table
pub all_plain : (P : TableColumn → Type 0) (cs ds : List (Bor Col)) → table_of (lent_columns cs) ≡ table_of (lent_columns ds) → All (λ c. P (plain_column c.now)) ds → All (λ c. P (plain_column c.now)) cs
all_plain P cs ds same all = λ k d low.
    let see : Bor Col → TableColumn = λ c. plain_column c.now in
    let each : All P (map see cs) = All-same P (map see cs) (map see ds) (sym (lent_plain cs) ∙ same ∙ lent_plain ds) (All-map P see ds all) in
    subst P (get_or-map see cs k d (see d) low) (each k (see d) (omega (arith, low, length-map cs see)))

-- columns that were put into one chunk each
pub whole_table : (cs ws ks : List Col) → cs ≡ ws → ws ≡ map in_one_chunk ks → table_of cs ≡ table_of ks
whole_table cs ws ks same whole = ap table_of (same ∙ whole) ∙ table-whole ks

module _ (f g : WideColumns) (on : table_of (lent_columns f.on.items) ≡ table_of (lent_columns g.on.items)) (index : table_of (lent_columns f.index.items) ≡ table_of (lent_columns g.index.items)) (vals : table_of (lent_columns f.values.items) ≡ table_of (lent_columns g.values.items)) where
  pub as_high : (h : ℕ) → AreAsHigh h g → AreAsHigh h f
  as_high h high =
      let P : TableColumn → Type 0 = λ c. length c.values ≡ h in
      record {
        on = all_plain P f.on.items g.on.items on high.on;
        index = all_plain P f.index.items g.index.items index high.index;
        values = all_plain P f.values.items g.values.items vals high.values;
      }

  pub same_chosen : (h : ℕ) (sorts : Bool) (way : Way) (separator : Name) → chosen_of h f sorts way separator ≡ chosen_of h g sorts way separator
  same_chosen h sorts way separator = λ t. record { height = h; on = on t; index = index t; values = vals t; sorts = sorts; way = way; separator = separator }
