-- Rows of the same values fall into one part.
use Rattle.std.proofs.Common.{◌≡◌, ◌∙◌, ◌<◌, ◌≤◌, ◌^◌, ◌%◌, ◌/◌, ℕ, ℤ, Bool, true, eqb, bit_xor, List, [], ◌∷◌, filter, get_or, lit<, map, refl, ap, arith}
use Rattle.std.specs.Borrow.{Bor}
use Rattle.std.proofs.lemmas.List.FromFn.{get_or-map-range_with_len, length-map-range_with_len}
use Rattle.tb_value.specs.Promise.Datum.{Datum, null, boolean, int, string, binary, list, struct}
use Rattle.tb_value.specs.Promise.Kind as kind
use Rattle.tb_value.specs.Promise.Kind.{Kind}
use Rattle.tb_value.specs.Promise.Pairs.{row_numbers}
use Rattle.tb_chunk.specs.Lent.{lent_columns}
use Rattle.tb_chunk.specs.Promise.Col.{Col, values}
use Rattle.tb_frame.specs.Promise.Table.{TableColumn, table_of}
use Rattle.tb_rows.specs.Promise.Rows.{same_rows}
use Rattle.tb_rowkey.specs.Promise.RowKey.{key_row}
use Rattle.tb_build.specs.Promise.Codes.{modulo, part_of}
use Rattle.tb_build.specs.Promise.Plan.{part_rows}
use Rattle.tb_build.specs.CodeLaws.{bool_fits, bytes_fit, number_fits}
use Rattle.tb_build.proofs.Parts.{part-below}
use Rattle.tb_hash.specs.Promise.Hashing.{int_code, value_code}
use Rattle.tb_group.specs.Codes.{codes_by}
use Rattle.tb_group.specs.Parts.{lent_test}
use Rattle.tb_group.specs.Promise.Keys.{key_at, key_code, key_type}
use Rattle.tb_group.proofs.Members.{each_row, filter_same}
use Rattle.tb_group.proofs.RowsByKeys.{to_fields}

int_fits : (t : Kind) (z : ℤ) → int_code t z < 2 ^ 64
int_fits kind.int128 z = number_fits (bit_xor (modulo z (2 ^ 128) / 2 ^ 64) (modulo z (2 ^ 128) % 2 ^ 64))
int_fits _ z = number_fits (modulo z (2 ^ 64))

-- a code fits 64 bits
pub value_fits : (t : Kind) (v : Datum) → value_code t v < 2 ^ 64
value_fits t null = lit< tt
value_fits t (boolean b) = bool_fits b
value_fits t (int z) = int_fits t z
value_fits t (string s) = bytes_fit s
value_fits t (binary s) = bytes_fit s
value_fits t (list vs) = lit< tt
value_fits t (struct vs) = lit< tt

abbrev first : List Datum → Datum
first [] = null
first (v ∷ vs) = v

same_key_at : (x y : ℕ) (cs : List TableColumn) → same_rows (map (λ (c : TableColumn). c.values) cs) x y ≡ true → key_at cs x ≡ key_at cs y
same_key_at x y [] h = refl
same_key_at x y (c ∷ []) h = ap first (to_fields x y (c ∷ []) h)
same_key_at x y (c ∷ d ∷ cs) h = ap (key_row (map (λ (e : TableColumn). e.kind) (c ∷ d ∷ cs)) (λ _. true)) (to_fields x y (c ∷ d ∷ cs) h)

-- the test of rows by lent columns is that by a table of them
pub lent_same : (by : List (Bor Col)) → lent_test by ≡ same_rows (map (λ (c : TableColumn). c.values) (table_of (lent_columns by)))
lent_same by = ap same_rows (lists by)
  where
    lists : (cs : List (Bor Col)) → map (λ (c : Bor Col). values c.now) cs ≡ map (λ (c : TableColumn). c.values) (table_of (lent_columns cs))
    lists [] = refl
    lists (c ∷ cs) = ap (λ (l : List (List Datum)). values c.now ∷ l) (lists cs)

module _ (cs : List TableColumn) (parts : ℕ) where
  -- the part into which a row falls
  abbrev pub part_at : ℕ → ℕ
  part_at j = part_of (key_code cs j) parts

  pub part_low : 1 ≤ parts → (j : ℕ) → part_at j < parts
  part_low some j = part-below (key_code cs j) parts (value_fits (key_type cs) (key_at cs j)) some

  pub one_part : (x y : ℕ) → same_rows (map (λ (c : TableColumn). c.values) cs) x y ≡ true → part_at x ≡ part_at y
  one_part x y h = ap (λ (v : Datum). part_of (value_code (key_type cs) v) parts) (same_key_at x y cs h)

  -- the rows of a part are those that fall into it
  pub rows_are : (n p : ℕ) → part_rows (codes_by cs n) parts p ≡ filter (λ j. eqb p (part_at j)) (row_numbers n)
  rows_are n p =
      let codes : List ℕ = codes_by cs n in
      let by_code : ℕ → Bool = λ j. eqb p (part_of (get_or codes j 0) parts) in
      let by_part : ℕ → Bool = λ j. eqb p (part_at j) in
      ap (λ (m : ℕ). filter by_code (row_numbers m)) (length-map-range_with_len (key_code cs) 0 n)
      ∙ filter_same by_code by_part (row_numbers n) (each_row (λ j. by_code j ≡ by_part j) n (λ j low.
      ap (λ (c : ℕ). eqb p (part_of c parts)) (get_or-map-range_with_len (key_code cs) 0 n j j 0 low (omega arith))))
