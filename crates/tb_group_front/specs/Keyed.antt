-- Rows beside whole numbers by which they are put in order.
use Rattle.std.specs.Prelude.{◌≡◌, ℕ, List, [], ◌∷◌, map}
use Rattle.std.specs.List.{All}
use Rattle.std.specs.Ordering.{ordering_then}
use Rattle.std.specs.declared.cmp.Ordering.{Ordering}
use Rattle.tb_value.specs.Promise.Datum.{Datum, int, null}
use Rattle.tb_value.specs.Promise.Pairs.{row_numbers}
use Rattle.tb_rows.specs.Order.{value_cmp}
use Rattle.tb_rows.specs.Promise.Rows.{row_value}
use Rattle.tb_frame.specs.Promise.Table.{Table}
use Rattle.tb_group_front.specs.declared.keyed.KeyedRow.{KeyedRow}
use Rattle.tb_group_front.specs.declared.keyed.SortKey.{SortKey}
use Rattle.tb_group_front.specs.declared.keyed.SortKey.TheVariants.{Null, Whole}
use Rattle.tb_group_front.specs.Promise.Sorted.{row_cmp}

abbrev pub key_value : SortKey → Datum
key_value Null = null
key_value (Whole z) = int z

-- a row beside its value
abbrev pub IsBeside : List Datum → KeyedRow → Type 0
IsBeside vs k = row_value vs k.row ≡ key_value k.key

-- so many rows beside their values
pub record AreFirst (n : ℕ) (vs : List Datum) (ks : List KeyedRow) : Type 0 where
  pub rows : map (λ (k : KeyedRow). k.row) ks ≡ row_numbers n
  pub beside : All (IsBeside vs) ks

-- the same in the first of these columns, of which there is one
abbrev pub AreKeyed : ℕ → Table → List KeyedRow → Type 0
AreKeyed n [] ks = ⊥
AreKeyed n (c ∷ cs) ks = AreFirst n c.values ks

-- how two rows compare: by their keys, and where these tie by all columns
abbrev pub keyed_cmp : Table → KeyedRow → KeyedRow → Ordering
keyed_cmp cs x y =
    ordering_then (value_cmp (key_value x.key) (key_value y.key)) (row_cmp cs x.row y.row)
