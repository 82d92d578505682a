-- The keys of rows, as the rows.
use Rattle.std.proofs.Common.{◌≡◌, ◌∙◌, ℕ, Bool, true, false, ◌&&◌, if◌then◌else◌, List, [], ◌∷◌, map, refl, sym, ap}
use Rattle.std.specs.List.{All}
use Rattle.std.proofs.lemmas.Bool.{and_from, and_parts, both_ways}
use Rattle.std.proofs.lemmas.List.Elements.{All-head, All-tail}
use Rattle.tb_value.specs.Promise.Datum.{Datum, binary, null}
use Rattle.tb_value.specs.Promise.Kind.{Kind}
use Rattle.tb_value.specs.Proved.ValueTests.{same-Decides}
use Rattle.tb_value.specs.Promise.Same.{same}
use Rattle.tb_value.specs.Promise.SameKind.{is_key}
use Rattle.tb_value.specs.Promise.Typed.{HasType}
use Rattle.tb_frame.specs.Promise.Table.{IsTyped, TableColumn}
use Rattle.tb_frame.proofs.Causes.{selected_hold}
use Rattle.tb_frame.proofs.Taking.{at_place}
use Rattle.tb_rows.specs.Promise.Rows.{same_rows, row_value}
use Rattle.tb_rowkey.specs.Promise.RowKey.{has_key, key_row, rowkey}
use Rattle.tb_rowkey.specs.Rows.{IsKeyRow}
use Rattle.tb_rowkey.proofs.Rows.{same_key}
use Rattle.tb_group.specs.Promise.Keys.{key_at}
use Rattle.tb_group.specs.Laws.{KeysAreRows}
use Rattle.tb_group.specs.Promise.Request.{by_columns}

either : (a b : Bool) → (a ≡ true → b ≡ true) → (b ≡ true → a ≡ true) → a ≡ b
either true b f g = sym (f refl)
either false true f g = g refl
either false false f g = refl

-- where Nulls match, each row has a key
pub has_each : (fs : List Datum) → has_key (λ _. true) fs ≡ true
has_each [] = refl
has_each (null ∷ fs) = has_each fs
has_each (f ∷ fs) = has_each fs

module _ (i j : ℕ) where
  abbrev kinds_of : List TableColumn → List Kind
  kinds_of cs = map (λ (c : TableColumn). c.kind) cs

  abbrev fields : ℕ → List TableColumn → List Datum
  fields k cs = map (λ (c : TableColumn). row_value c.values k) cs

  abbrev all_alike : List TableColumn → Bool
  all_alike cs = same_rows (map (λ (c : TableColumn). c.values) cs) i j

  abbrev KeyColumns : List TableColumn → Type 0
  KeyColumns cs = All (λ (c : TableColumn). is_key c.kind ≡ true) cs

  a_row : (k : ℕ) (cs : List TableColumn) → All IsTyped cs → KeyColumns cs → IsKeyRow (kinds_of cs) (fields k cs)
  a_row k [] typed keys = tt
  a_row k (c ∷ cs) typed keys = (
    (All-head (λ (d : TableColumn). is_key d.kind ≡ true) c cs keys, at_place (HasType c.kind) c.values k tt (All-head IsTyped c cs typed)),
    a_row k cs (All-tail IsTyped c cs typed) (All-tail (λ (d : TableColumn). is_key d.kind ≡ true) c cs keys),
  )

  -- rows that are alike have the same fields, and the other way round
  pub to_fields : (cs : List TableColumn) → all_alike cs ≡ true → fields i cs ≡ fields j cs
  to_fields [] h = refl
  to_fields (c ∷ cs) h =
      let both = and_parts (same (row_value c.values i) (row_value c.values j)) (all_alike cs) h in
      let first = (same-Decides (row_value c.values i) (row_value c.values j)).0 both.0 in
      let rest = to_fields cs both.1 in
      λ t. first t ∷ rest t

  from_fields : (cs : List TableColumn) → fields i cs ≡ fields j cs → all_alike cs ≡ true
  from_fields [] e = refl
  from_fields (c ∷ cs) e = and_from (same (row_value c.values i) (row_value c.values j)) (all_alike cs)
      ((same-Decides (row_value c.values i) (row_value c.values j)).1 (ap first e)) (from_fields cs (ap rest e))
    where
      first : List Datum → Datum
      first [] = null
      first (v ∷ vs) = v

      rest : List Datum → List Datum
      rest [] = []
      rest (v ∷ vs) = vs

  abbrev row_key : ℕ → List TableColumn → Datum
  row_key k cs = key_row (kinds_of cs) (λ _. true) (fields k cs)

  is_bytes : (k : ℕ) (cs : List TableColumn) → row_key k cs ≡ binary (rowkey (kinds_of cs) (fields k cs))
  is_bytes k cs = by (has_key (λ _. true) (fields k cs)) (has_each (fields k cs))
    where
      by : (b : Bool) → b ≡ true → (if b then binary (rowkey (kinds_of cs) (fields k cs)) else null) ≡ binary (rowkey (kinds_of cs) (fields k cs))
      by true e = refl
      by false e = absurd (both_ways false refl e)

  abbrev bytes : Datum → List ℕ
  bytes (binary s) = s
  bytes _ = []

  by_bytes : (cs : List TableColumn) → All IsTyped cs → KeyColumns cs → same (row_key i cs) (row_key j cs) ≡ all_alike cs
  by_bytes cs typed keys = either (same (row_key i cs) (row_key j cs)) (all_alike cs)
      (λ h. from_fields cs (same_key (kinds_of cs) (fields i cs) (fields j cs) (a_row i cs typed keys) (a_row j cs typed keys)
      (ap bytes (sym (is_bytes i cs) ∙ (same-Decides (row_key i cs) (row_key j cs)).0 h ∙ is_bytes j cs))))
      (λ h. (same-Decides (row_key i cs) (row_key j cs)).1 (ap (λ fs. key_row (kinds_of cs) (λ _. true) fs) (to_fields cs h)))

  pub by_keys : (cs : List TableColumn) → All IsTyped cs → KeyColumns cs → same (key_at cs i) (key_at cs j) ≡ all_alike cs
  by_keys [] typed keys = by_bytes [] typed keys
  by_keys (c ∷ []) typed keys = one (same (row_value c.values i) (row_value c.values j))
    where
      one : (b : Bool) → b ≡ (b && true)
      one true = refl
      one false = refl
  by_keys (c ∷ d ∷ cs) typed keys = by_bytes (c ∷ d ∷ cs) typed keys

pub keys_are_rows : KeysAreRows
keys_are_rows q i j is keys = by_keys i j (by_columns q) (selected_hold IsTyped q.table is.typed q.by) keys
