-- The keys that a loop over places has read from their columns.
use Rattle.std.proofs.Common.{◌≡◌, ℕ, ◌<◌, Bool, ◌||◌, Bor, List, length, get_or, ap, sym, ◌∙◌, arith}
use Rattle.std.specs.List.{All, list_all}
use Rattle.std.proofs.lemmas.List.{get_or-map, get_or_default, length-map}
use Rattle.tb_value.specs.Promise.Datum.{null, is_present}
use Rattle.tb_value.specs.Promise.Pairs.{row_numbers}
use Rattle.tb_value.specs.Promise.Same.{same}
use Rattle.tb_chunk.specs.Promise.Col.{Col, values}
use Rattle.tb_chunk.proofs.Lent.{low_lent, lent_is, lent_has}
use Rattle.tb_frame.specs.Promise.Table.{TableColumn, plain_column, table_of}
use Rattle.tb_value.specs.Promise.Same.{agrees}
use Rattle.tb_frame.specs.Promise.Join.{Request, field, nulls_match}
use Rattle.tb_frame.specs.Promise.Refusal.{kind_at}
use Rattle.tb_frame.proofs.Fields.{field_at, kind_is}
use Rattle.tb_chunk.specs.Lent.{lent_columns}

-- whether two rows agree at a place, whether a row counts there, and whether two rows are the same there
abbrev pub agrees_at : Request → ℕ → ℕ → ℕ → Bool
agrees_at q i j p = agrees (nulls_match q p) (field q.left_keys p i) (field q.right_keys p j)

abbrev pub counts_at : (ℕ → Bool) → List TableColumn → ℕ → ℕ → Bool
counts_at nulls_match keys i p = is_present (field keys p i) || nulls_match p

abbrev pub same_at : List TableColumn → ℕ → ℕ → ℕ → Bool
same_at keys i j p = same (field keys p i) (field keys p j)

-- the same at each of the first n places
abbrev pub match_to : Request → ℕ → ℕ → ℕ → Bool
match_to q i j n = list_all (agrees_at q i j) (row_numbers n)

abbrev pub counted_to : (ℕ → Bool) → List TableColumn → ℕ → ℕ → Bool
counted_to nulls_match keys i n = list_all (counts_at nulls_match keys i) (row_numbers n)

abbrev pub same_to : List TableColumn → ℕ → ℕ → ℕ → Bool
same_to keys i j n = list_all (same_at keys i j) (row_numbers n)

module _ (cs : List Col) (p : ℕ) (c : Col) (low : p < length cs) (is : c ≡ get_or cs p c) where
  low_plain : p < length (table_of cs)
  low_plain = let long = length-map cs plain_column in omega (arith, long, low)

  plain_is : plain_column c ≡ get_or (table_of cs) p (plain_column c)
  plain_is = sym (get_or-map plain_column cs p c (plain_column c) low ∙ ap plain_column (sym is))

  pub column_field : (i : ℕ) → get_or (values c) i null ≡ field (table_of cs) p i
  column_field i = sym (field_at (table_of cs) p i (plain_column c) low_plain plain_is)

  pub column_kind : c.kind ≡ kind_at (table_of cs) p
  column_kind = kind_is (table_of cs) p (plain_column c) low_plain plain_is

-- the same of a column that is lent
pub lent_many : (rs : List (Bor Col)) → length (table_of (lent_columns rs)) ≡ length rs
lent_many rs = length-map (lent_columns rs) plain_column ∙ length-map rs (λ (r : Bor Col). r.now)

module _ (rs : List (Bor Col)) (p : ℕ) (r : Bor Col) (low : p < length rs) (is : r ≡ get_or rs p r) where
  pub lent_field : (i : ℕ) → get_or (values r.now) i null ≡ field (table_of (lent_columns rs)) p i
  lent_field i = column_field (lent_columns rs) p r.now (low_lent rs p r low is) (lent_is rs p r low is) i

  pub lent_kind : r.now.kind ≡ kind_at (table_of (lent_columns rs)) p
  lent_kind = column_kind (lent_columns rs) p r.now (low_lent rs p r low is) (lent_is rs p r low is)

-- the same of one that is read through a further borrow
module _ (rs : List (Bor Col)) (p : ℕ) (d : Bor Col) (low : p < length rs) where
  at_p : get_or rs p d ≡ get_or rs p (get_or rs p d)
  at_p = get_or_default rs p d (get_or rs p d) low

  pub place_has : (P : Col → Type 0) → All P (lent_columns rs) → P (get_or rs p d).now
  place_has P h = lent_has rs p (get_or rs p d) low at_p P h

  pub place_field : (i : ℕ) → get_or (values (get_or rs p d).now) i null ≡ field (table_of (lent_columns rs)) p i
  place_field i = lent_field rs p (get_or rs p d) low at_p i

  pub place_kind : (get_or rs p d).now.kind ≡ kind_at (table_of (lent_columns rs)) p
  place_kind = lent_kind rs p (get_or rs p d) low at_p
