-- The codes of rows, by their row keys.
use Rattle.std.proofs.Common.{◌≡◌, ◌∙◌, ◌+◌, ◌<◌, ◌++◌, ℕ, suc, Bool, true, false, ◌||◌, if◌then◌else◌, List, [], ◌∷◌, Option, Some, get_or, length, map, replicate, refl, sym, ap, arith}
use Rattle.std.specs.Borrow.{Bor}
use Rattle.std.proofs.lemmas.Bool.{and_from, or_right}
use Rattle.std.proofs.lemmas.List.{get_or-replicate, length-map, map-append}
use Rattle.tb_value.specs.Promise.Datum.{Datum, binary, is_present, null}
use Rattle.tb_value.specs.Promise.Kind as kind
use Rattle.tb_value.specs.Promise.Kind.{Kind}
use Rattle.tb_value.specs.Promise.Pairs.{row_numbers}
use Rattle.tb_value.proofs.Loops.{map-map}
use Rattle.tb_value.proofs.RowNumbers.{row_numbers_more}
use Rattle.tb_chunk.specs.Chunk.{or_null}
use Rattle.tb_chunk.specs.Lent.{lent_columns}
use Rattle.tb_chunk.specs.Promise.Col.{Col, values}
use Rattle.tb_frame.specs.Promise.Table.{TableColumn, plain_column, table_of}
use Rattle.tb_rows.specs.Promise.Rows.{row_value}
use Rattle.tb_rowkey.specs.Columns.{flag_of}
use Rattle.tb_rowkey.specs.Promise.Columns as columns
use Rattle.tb_rowkey.specs.Promise.Columns.{kinds, keys_at, row_count}
use Rattle.tb_rowkey.specs.Promise.RowKey.{has_key, key_row, rowkey}
use Rattle.tb_build.specs.Codes.{code_or_none}
use Rattle.tb_build.specs.Plan.{codes_of}
use Rattle.tb_hash.specs.Promise.Hashing.{value_code}
use Rattle.tb_group.specs.Codes.{codes_by, own_code}
use Rattle.tb_group.specs.declared.codes.Code.{Code}
use Rattle.tb_group.specs.Promise.Keys.{key_code}
use Rattle.tb_group.proofs.RowsByKeys.{has_each}

-- one more code
pub pushed_code : (codes : List (Option Code)) (x : Code) (due : List ℕ) (code : ℕ) → codes_of own_code codes ≡ due → own_code x ≡ code → codes_of own_code (codes ++ Some x ∷ []) ≡ due ++ code ∷ []
pushed_code codes x due code are is = map-append (code_or_none own_code) codes (Some x ∷ []) ∙ (λ t. are t ++ is t ∷ [])

pub one_more_row : (cs : List TableColumn) (n : ℕ) → codes_by cs n ++ key_code cs n ∷ [] ≡ codes_by cs (n + 1)
one_more_row cs n = sym (ap (map (key_code cs)) (row_numbers_more n) ∙ map-append (key_code cs) (row_numbers n) (n ∷ []))

-- a row has a key where Nulls match at each of its places
has_all : (nulls : ℕ → Bool) (fs : List Datum) → ((p : ℕ) → p < length fs → nulls p ≡ true) → has_key nulls fs ≡ true
has_all nulls [] all = refl
has_all nulls (f ∷ fs) all =
    and_from (is_present f || nulls 0) (has_key (λ p. nulls (suc p)) fs)
    (or_right (is_present f) (nulls 0) (all 0 (omega arith)))
    (has_all (λ p. nulls (suc p)) fs (λ p low. all (suc p) (omega (arith, low))))

same_row : (ts : List Kind) (nulls : ℕ → Bool) (fs : List Datum) → ((p : ℕ) → p < length fs → nulls p ≡ true) → key_row ts nulls fs ≡ key_row ts (λ _. true) fs
same_row ts nulls fs all = ap (λ (b : Bool). if b then binary (rowkey ts fs) else null) (has_all nulls fs all ∙ sym (has_each fs))

-- the code of a row's key
row_code_is : (cs : List Col) → 1 < length cs → (nulls : ℕ → Bool) → ((p : ℕ) → p < length cs → nulls p ≡ true) → (i : ℕ) → value_code kind.binary (columns.key_at cs nulls i) ≡ key_code (table_of cs) i
row_code_is [] some nulls all i = absurd (omega (arith, some))
row_code_is (c ∷ []) some nulls all i = absurd (omega (arith, some))
row_code_is (c ∷ d ∷ cs) some nulls all i =
    let whole : List Col = c ∷ d ∷ cs in
    let fs : List Datum = map (λ (k : Col). row_value (values k) i) whole in
    ap (value_code kind.binary)
    (same_row (kinds whole) nulls fs (λ p low. all p (omega (arith, low, length-map whole (λ (k : Col). row_value (values k) i))))
    ∙ (λ t. key_row (sym (map-map (λ (k : TableColumn). k.kind) plain_column whole) t) (λ _. true) (sym (map-map (λ (k : TableColumn). row_value k.values i) plain_column whole) t)))

-- the codes of the row keys in which Nulls match
pub row_codes_are : (cs : List Col) → 1 < length cs → (flags : List Bool) → flags ≡ replicate (length cs) true → (keys : List (Option (List ℕ)))
    → map (or_null binary) keys ≡ keys_at cs (flag_of flags) → map (λ o. value_code kind.binary (or_null binary o)) keys ≡ codes_by (table_of cs) (row_count cs)
row_codes_are cs some flags on keys are =
    let all : (p : ℕ) → p < length cs → flag_of flags p ≡ true = λ p low. ap (λ (fs : List Bool). flag_of fs p) on ∙ get_or-replicate (length cs) p true false low in
    sym (map-map (value_code kind.binary) (or_null binary) keys)
    ∙ ap (map (value_code kind.binary)) are
    ∙ map-map (value_code kind.binary) (columns.key_at cs (flag_of flags)) (row_numbers (row_count cs))
    ∙ (λ t. map (λ i. row_code_is cs some (flag_of flags) all i t) (row_numbers (row_count cs)))

-- the codes by one column alone
pub by_one : (by : List (Bor Col)) (b : Bor Col) → length by ≡ 1 → b ≡ get_or by 0 b → codes_by (plain_column b.now ∷ []) (length (values b.now)) ≡ codes_by (table_of (lent_columns by)) (row_count (lent_columns by))
by_one [] b one is = absurd (omega (arith, one))
by_one (c ∷ []) b one is = ap (λ (d : Bor Col). codes_by (plain_column d.now ∷ []) (length (values d.now))) is
by_one (c ∷ d ∷ cs) b one is = absurd (omega (arith, one))
