-- The rows of parts, by the keys of columns that are lent.
use Rattle.std.proofs.Common.{◌≡◌, ◌+◌, ◌<◌, ◌≤◌, ℕ, zero, suc, Bool, false, List, [], ◌∷◌, Option, Some, None, get_or, length, map, is_none, replicate, not, refl, ap, subst, sym, ◌∙◌, arith}
use Rattle.std.specs.Prelude.{All, ◌==◌, filter, nat_eq}
use Rattle.std.specs.Borrow.{Bor}
use Rattle.std.specs.List.{cons_option, filter_map}
use Rattle.tb_value.specs.Promise.Names.{Name}
use Rattle.tb_value.specs.Promise.Refusals.{first_cause}
use Rattle.tb_value.specs.declared.error.PolarsError.{PolarsError}
use Rattle.tb_value.specs.declared.error.PolarsError.TheVariants.{ColumnNotFound}
use Rattle.std.proofs.lemmas.List.{length-map}
use Rattle.std.proofs.lemmas.List.Elements.{All-filter, All-head, All-map, All-tail}
use Rattle.std.proofs.lemmas.List.Filters.{length-filter_both}
use Rattle.std.proofs.lemmas.List.Folds.{map_fixed}
use Rattle.std.proofs.lemmas.List.FromFn.{get_or-map-range_with_len, length-map-range_with_len, length-range_with_len}
use Rattle.tb_value.specs.Promise.Datum.{Datum, binary, null}
use Rattle.tb_value.specs.Promise.Pairs.{row_numbers}
use Rattle.tb_value.specs.declared.limits.TheConstants.{MAX_ROWS}
use Rattle.tb_value.proofs.Ascending.{kept_same}
use Rattle.tb_value.proofs.Loops.{map-map}
use Rattle.tb_value.proofs.RowNumbers.{rows_below}
use Rattle.tb_numbered.specs.Numbered.{grouped_rows, numbered_rows, row_from}
use Rattle.tb_chunk.specs.Chunk.{or_null}
use Rattle.tb_chunk.specs.Lent.{lent_columns}
use Rattle.tb_chunk.specs.Promise.Col.{Col, values}
use Rattle.tb_chunk.proofs.Lent.{lent_is, low_lent}
use Rattle.std.proofs.lemmas.List.{get_or-map}
use Rattle.tb_frame.specs.Promise.Frame.{selected_columns}
use Rattle.tb_frame.specs.Promise.Join.{column_named}
use Rattle.tb_frame.specs.Promise.Naming.{is_among}
use Rattle.tb_frame.specs.Promise.Refusal.{first_unknown, kind_at, repeated_among, unknown_key}
use Rattle.tb_frame.specs.Promise.Table.{IsTable, TableColumn, Table, height, names_of, plain_column, row_at, table_of}
use Rattle.tb_frame.proofs.Causes.{find_none, map_none, selected_hold}
use Rattle.tb_frame.proofs.Fields.{kind_is}
use Rattle.tb_frame.proofs.Selected.{selected-table, unnamed-is}
use Rattle.tb_frame.proofs.Taking.{all_plain}
use Rattle.tb_rowkey.specs.Columns.{flag_of}
use Rattle.tb_rowkey.specs.Promise.Columns.{key_at, keys_at, row_count}
use Rattle.tb_rowkey.specs.Promise.RowKey.{key_row}
use Rattle.tb_build.specs.Promise.Codes.{fibonacci, part_of}
use Rattle.tb_build.proofs.PartPieces.{same_test}
use Rattle.tb_parts.specs.Promise.Parts.{rows_in}
use Rattle.tb_split.specs.Keys.{AreKeysOf, AreRowsOf, bytes_part, key_of_row}
use Rattle.tb_split.specs.Promise.Split.{code_of_key, first_no_key, key_part, kinds_of, no_names, rows_by_keys, split_keys, split_refusal}

-- TYPES OF COLUMNS THAT ARE LENT

pub many_lent : (rs : List (Bor Col)) → length (table_of (lent_columns rs)) ≡ length rs
many_lent rs = length-map (lent_columns rs) plain_column ∙ length-map rs (λ (r : Bor Col). r.now)

pub kind_lent : (rs : List (Bor Col)) (p : ℕ) (r : Bor Col) → p < length rs → r ≡ get_or rs p r → r.now.kind ≡ kind_at (table_of (lent_columns rs)) p
kind_lent rs p r low is =
    kind_is (table_of (lent_columns rs)) p (plain_column r.now) (omega (arith, low, many_lent rs))
    (sym (get_or-map plain_column (lent_columns rs) p r.now (plain_column r.now) (low_lent rs p r low is) ∙ ap plain_column (sym (lent_is rs p r low is))))

-- THE COLUMNS OF NAMES

pub some_names : (on : List Name) → no_names on ≡ None → 0 < length on
some_names [] h = absurd (cc)
some_names (n ∷ ns) h = omega arith

-- as many columns as names that are all known
many : (t : Table) (names : List Name) → All (λ n. not (is_among (names_of t) n) ≡ false) names → length (filter_map (column_named t) names) ≡ length names
many t [] h = refl
many t (n ∷ ns) h =
    at (column_named t n) (unnamed-is n t ∙ All-head (λ m. not (is_among (names_of t) m) ≡ false) n ns h) (many t ns (All-tail (λ m. not (is_among (names_of t) m) ≡ false) n ns h))
  where
    at : (o : Option TableColumn) → is_none o ≡ false → length (filter_map (column_named t) ns) ≡ length ns → length (cons_option o (filter_map (column_named t) ns)) ≡ length (n ∷ ns)
    at None e k = absurd (cc)
    at (Some c) e k = omega (arith, k)

pub known_many : (t : Table) (names : List Name) → first_unknown t names ≡ None → length (split_keys t names) ≡ length names
known_many t names known = many t names (find_none (λ n. not (is_among (names_of t) n)) names known)

high_is : (cs : List Col) (h : ℕ) → 0 < length cs → All (λ c. length (values c) ≡ h) cs → row_count cs ≡ h
high_is [] h some level = absurd (omega (arith, some))
high_is (c ∷ cs) h some level = level 0 c (omega arith)

pub keys_of : (cs : List Col) (on : List Name) (keys : List (Bor Col)) → IsTable (table_of cs) → no_names on ≡ None → unknown_key (table_of cs) on ≡ None
    → lent_columns keys ≡ selected_columns on cs → AreKeysOf (table_of cs) on keys
keys_of cs on keys table some known found =
    let named : table_of (lent_columns keys) ≡ split_keys (table_of cs) on = ap table_of found ∙ selected-table on cs in
    let first : first_unknown (table_of cs) on ≡ None = map_none (λ n. ColumnNotFound n) (first_unknown (table_of cs) on) known in
    let long : length keys ≡ length on = sym (many_lent keys) ∙ ap length named ∙ known_many (table_of cs) on first in
    let lent = length-map keys (λ (r : Bor Col). r.now) in
    let h : ℕ = height (table_of cs) in
    let level : All (λ c. length (values c) ≡ h) (lent_columns keys)
    = all_plain (λ (c : TableColumn). length c.values ≡ h) (lent_columns keys)
    (subst (λ (t : Table). All (λ (c : TableColumn). length c.values ≡ h) t) (sym named) (selected_hold (λ (c : TableColumn). length c.values ≡ h) (table_of cs) table.one_height on)) in
    let there : 0 < length keys = omega (arith, long, some_names on some) in
    let high : row_count (lent_columns keys) ≡ h = high_is (lent_columns keys) h (omega (arith, there, lent)) level in
    record {
      named = named;
      some = there;
      level = λ k d low. level k d low ∙ sym high;
      high = high;
    }

-- what is refused
pub refused : (t keys : Table) (on : List Name) (cause : Option PolarsError) → no_names on ≡ None → unknown_key t on ≡ None → repeated_among on ≡ None → keys ≡ split_keys t on
    → first_no_key keys ≡ cause → split_refusal t on ≡ first_cause (cause ∷ [])
refused t keys on cause some known once named kind =
    (λ i. first_cause (some i ∷ known i ∷ once i ∷ first_no_key (sym named i) ∷ [])) ∙ ap (λ (o : Option PolarsError). first_cause (o ∷ [])) kind

-- KEYS

-- flags of which none is true
no_flag : (n p : ℕ) → flag_of (replicate n false) p ≡ false
no_flag zero p = refl
no_flag (suc n) zero = refl
no_flag (suc n) (suc p) = no_flag n p

key_is : (cs : List Col) (flags : List Bool) (n : ℕ) → flags ≡ replicate n false → (i : ℕ) → key_at cs (flag_of flags) i ≡ key_of_row (table_of cs) i
key_is cs flags n off i = λ t.
    key_row (sym (map-map (λ (c : TableColumn). c.kind) plain_column cs) t) (λ p. (ap (λ (fs : List Bool). flag_of fs p) off ∙ no_flag n p) t)
    (sym (map-map (λ (c : TableColumn). get_or c.values i null) plain_column cs) t)

pub keys_are : (cs : List Col) (flags : List Bool) (n : ℕ) (keys : List (Option (List ℕ))) → flags ≡ replicate n false → map (or_null binary) keys ≡ keys_at cs (flag_of flags)
    → map (or_null binary) keys ≡ map (key_of_row (table_of cs)) (row_numbers (row_count cs))
keys_are cs flags n keys off are = are ∙ (λ t. map (λ i. key_is cs flags n off i t) (row_numbers (row_count cs)))

-- PARTS

part_is : (n : ℕ) (key : Option (List ℕ)) → bytes_part n key ≡ part_of (fibonacci (code_of_key (or_null binary key))) n
part_is n None = refl
part_is n (Some s) = refl

module _ (n : ℕ) (keys : List (Option (List ℕ))) (t : Table) (h : ℕ) (are : map (or_null binary) keys ≡ map (key_of_row t) (row_numbers h)) where
  abbrev part_at : ℕ → ℕ
  part_at i = key_part (kinds_of t) n (row_at t i)

  pub many_keys : length keys ≡ h
  many_keys = sym (length-map keys (or_null binary)) ∙ ap length are ∙ length-map-range_with_len (key_of_row t) 0 h

  parts_are : map (bytes_part n) keys ≡ map part_at (row_numbers h)
  parts_are =
      let by_key : Datum → ℕ = λ d. part_of (fibonacci (code_of_key d)) n in
      (λ i. map (λ key. part_is n key i) keys) ∙ sym (map-map by_key (or_null binary) keys) ∙ ap (map by_key) are ∙ map-map by_key (key_of_row t) (row_numbers h)

  from_zero : (rows : List ℕ) → map (row_from 0) rows ≡ rows
  from_zero rows = map_fixed (row_from 0) rows (λ k d low. omega arith)

  numbered_are : (numbers : List ℕ) → numbers ≡ map part_at (row_numbers h) → (p : ℕ) → numbered_rows numbers p ≡ rows_by_keys t h n p
  numbered_are numbers is p =
      let long : length numbers ≡ h = ap length is ∙ length-map-range_with_len part_at 0 h in
      ap (λ (m : ℕ). filter (λ j. get_or numbers j 0 == p) (row_numbers m)) long
      ∙ kept_same (λ j. get_or numbers j 0 == p) (λ j. p == part_at j) h (λ j low.
      same_test (get_or numbers j 0) p ∙ ap (λ (ns : List ℕ). nat_eq p (get_or ns j 0)) is ∙ ap (nat_eq p) (get_or-map-range_with_len part_at 0 h j j 0 low (omega arith)))

  pub rows_are : (numbers : List ℕ) → numbers ≡ map (bytes_part n) keys → grouped_rows (row_from 0) numbers n ≡ map (rows_by_keys t h n) (row_numbers n)
  rows_are numbers is = λ i. map (λ p. (from_zero (numbered_rows numbers p) ∙ numbered_are numbers (is ∙ parts_are) p) i) (row_numbers n)

  pub each_is : h ≤ MAX_ROWS → All (AreRowsOf h) (map (rows_by_keys t h n) (row_numbers n))
  each_is few = All-map (AreRowsOf h) (rows_by_keys t h n) (row_numbers n) (λ k d low.
      let here : ℕ → Bool = λ i. get_or (row_numbers n) k d == part_at i in
      record {
        low = All-filter here (λ i. i < h) (row_numbers h) (rows_below h);
        few = omega (arith, few, length-filter_both here (λ i. not (here i)) (λ i. refl) (row_numbers h), length-range_with_len 0 h);
      })
