-- What is given comes out again: the tables of the rows that were taken up, and the place of a key.
use Rattle.std.proofs.Common.{◌≡◌, ℕ, zero, suc, ◌+◌, ◌<◌, ◌≤◌, Bool, true, false, cond, not, nat_lt, List, [], ◌∷◌, ◌++◌, length, get_or, map, ◌⊎◌, Option, Some, None, is_none, refl, ap, arith, sym, ◌∙◌, subst}
use Rattle.std.specs.Prelude.{All, AllPairs, option_map, position}
use Rattle.std.specs.List.{enumerate_from, find, position_or_len}
use Rattle.std.proofs.lemmas.List.{ext_get_or, get_or-map, length-map, map-append}
use Rattle.std.proofs.lemmas.List.Elements.{All-head, All-tail}
use Rattle.std.proofs.lemmas.List.FromFn.{get_or-enumerate_from, length-enumerate_from, length-range_with_len}
use Rattle.tb_value.specs.Promise.Datum.{Datum, null}
use Rattle.tb_value.specs.Promise.Kind.{Kind}
use Rattle.tb_value.specs.Promise.Names.{Name, same_name}
use Rattle.tb_value.specs.Promise.Pairs.{row_numbers}
use Rattle.tb_value.specs.Promise.Typed.{FitsFields}
use Rattle.tb_value.specs.declared.error.PolarsError.{PolarsError}
use Rattle.tb_value.specs.declared.error.PolarsError.TheVariants.{ColumnNotFound, OutOfMemory}
use Rattle.tb_value.specs.declared.error.Side.{Side}
use Rattle.tb_value.specs.declared.error.Side.TheVariants as side
use Rattle.tb_value.proofs.Loops.{map-map}
use Rattle.tb_value.proofs.RowNumbers.{row_numbers_more}
use Rattle.tb_chunk.specs.Promise.Col.{Col, values}
use Rattle.tb_frame.specs.Promise.Join.{by_names}
use Rattle.tb_frame.specs.Promise.Refusal.{unknown_key}
use Rattle.tb_frame.specs.Promise.Table.{IsTable, IsTyped, Table, TableColumn, height, plain_column, row_at, rows_of, schema_of, table_of}
use Rattle.tb_frame.proofs.Selected.{found, unknown, unknown-is}
use Rattle.tb_frame.proofs.Taking.{all_plain}
use Rattle.tb_frame.proofs.Tables.{field_is, length-rows_of, row_is}
use Rattle.tb_value.specs.See.{datum}
use Rattle.tb_value.specs.declared.limits.TheConstants.{MAX_ROWS}
use Rattle.tb_delta.specs.Inside.{AreGrouped, AreRows, IsKept, agreeing, place_of}
use Rattle.tb_delta.specs.TakenUp.{with_first}
use Rattle.tb_delta.specs.Promise.Now.{column_now, columns_refusal, kept_args, table_now, view_refusal}
use Rattle.tb_delta.specs.Promise.State.{Row, SideState, given, side_of}
use Rattle.tb_delta.specs.declared.key.RowKey.{RowKey}
use Rattle.tb_delta.proofs.KeptViews.{rows_appended}
use Rattle.tb_delta.proofs.Partners.{position_step}
use Rattle.tb_delta.proofs.Schemas.{rowless}

-- THE PLACE OF A KEY

suc_none : (o : Option ℕ) → option_map suc o ≡ None → o ≡ None
suc_none None h = refl
suc_none (Some i) h = absurd (cc)

none_found : {X : Type 0} (p : X → Bool) (xs : List X) → position p xs ≡ None → find p xs ≡ None
none_found p [] h = refl
none_found {X} p (x ∷ xs) h = at (p x) (sym (position_step p x xs) ∙ h) (none_found p xs)
  where
    at : (b : Bool) → cond b (Some 0) (option_map suc (position p xs)) ≡ None → (position p xs ≡ None → find p xs ≡ None) → cond b (Some x) (find p xs) ≡ None
    at true k rest = absurd (cc)
    at false k rest = rest (suc_none (position p xs) k)

known : (b : Bool) (n : Name) → option_map (λ m. ColumnNotFound m) (cond b (Some n) None) ≡ None → b ≡ false
known true n h = absurd (cc)
known false n h = refl

-- a known key has a place
pub has_place : (cs : List Col) (n : Name) → unknown_key (table_of cs) (n ∷ []) ≡ None → position (λ (c : Col). same_name c.name n) cs ≡ None → ⊥
has_place cs n h none =
    let lost : is_none (found n cs) ≡ true = ap is_none (none_found (λ (c : Col). same_name c.name n) cs none) in
    let there : unknown cs n ≡ false = known (unknown cs n) n h in
    let apart : true ≡ false = sym lost ∙ unknown-is n cs ∙ there in
    absurd (cc)

first_mapped : {X Y : Type 0} (p : Y → Bool) (f : X → Y) (xs : List X) → position_or_len p (map f xs) ≡ position_or_len (λ x. p (f x)) xs
first_mapped p f [] = refl
first_mapped p f (x ∷ xs) = ap (λ n. cond (not (p (f x))) (1 + n) 0) (first_mapped p f xs)

position_mapped : {X Y : Type 0} (p : Y → Bool) (f : X → Y) (xs : List X) → position p (map f xs) ≡ position (λ x. p (f x)) xs
position_mapped p f xs = λ t. cond (nat_lt (first_mapped p f xs t) (length-map xs f t)) (Some (first_mapped p f xs t)) None

pub place_is : (cs : List Col) (n : Name) → place_of (schema_of (table_of cs)) n ≡ position (λ (c : Col). same_name c.name n) cs
place_is cs n =
    position_mapped (λ (c : Name × Kind). same_name c.0 n) (λ (c : TableColumn). (c.name, c.kind)) (table_of cs)
    ∙ position_mapped (λ (c : TableColumn). same_name c.name n) plain_column cs

-- THE TABLES

module _ (t : Table) (level : All (λ (c : TableColumn). length c.values ≡ height t) t) where
  abbrev rows : List Row
  rows = enumerate_from 0 (rows_of t)

  pub column_back : (p : ℕ) (d : TableColumn) → p < length t → map (λ (r : Row). get_or r.1 p null) rows ≡ (get_or t p d).values
  column_back p d low =
      let field : Row → Datum = λ r. get_or r.1 p null in
      let vs : List Datum = (get_or t p d).values in
      let long : length (map field rows) ≡ height t = length-map rows field ∙ length-enumerate_from 0 (rows_of t) ∙ length-rows_of t in
      ext_get_or null (map field rows) vs (long ∙ sym (level p d low))
      (λ i under.
      let here : i < length rows = omega (arith, under, length-map rows field) in
      let there : i < length (rows_of t) = omega (arith, here, length-enumerate_from 0 (rows_of t)) in
      let short : i < height t = omega (arith, there, length-rows_of t) in
      get_or-map field rows i (0, []) null here
      ∙ ap field (get_or-enumerate_from 0 (rows_of t) i (0, []) there)
      ∙ ap (λ (row : List Datum). get_or row p null) (row_is t i short)
      ∙ field_is t i p d low)

  columns_back : (cs : Table) (k : ℕ) → ((j : ℕ) (d : TableColumn) → j < length cs → map (λ (r : Row). get_or r.1 (k + j) null) rows ≡ (get_or cs j d).values)
      → map (column_now rows) (enumerate_from k (schema_of cs)) ≡ cs
  columns_back [] k h = refl
  columns_back (c ∷ cs) k h =
      let same : k ≡ k + 0 = omega arith in
      let here : map (λ (r : Row). get_or r.1 k null) rows ≡ c.values = ap (λ p. map (λ (r : Row). get_or r.1 p null) rows) same ∙ h 0 c (omega arith) in
      let rest : map (column_now rows) (enumerate_from (k + 1) (schema_of cs)) ≡ cs =
      columns_back cs (k + 1) (λ j d low. let next : (k + 1) + j ≡ k + suc j = omega arith in
      ap (λ p. map (λ (r : Row). get_or r.1 p null) rows) next ∙ h (suc j) d (omega (arith, low))) in
      λ i. record { name = c.name; kind = c.kind; values = here i } ∷ rest i

  pub table_back : (key : Name) → table_now (side_of t key) ≡ t
  table_back key = columns_back t 0 (λ j d low. let same : 0 + j ≡ j = omega arith in
      ap (λ p. map (λ (r : Row). get_or r.1 p null) rows) same ∙ column_back j d low)

-- the causes of what is given
pub given_refusal : (l r : Table) (a b : Name) (nulls : Bool) → IsTable l → IsTable r → view_refusal (given l r a b nulls) ≡ columns_refusal (by_names l r (a ∷ []) (b ∷ []) (kept_args nulls))
given_refusal l r a b nulls x y = λ t. columns_refusal (by_names (table_back l x.one_height a t) (table_back r y.one_height b t) (a ∷ []) (b ∷ []) (kept_args nulls))

-- a side without rows
abbrev no_rows_of : Table → Name → SideState
no_rows_of t n = record { columns = schema_of t; key = n; rows = []; ever = 0 }

no_rows_kept : (t : Table) (n : Name) → IsTable t → AreRows (no_rows_of t n)
no_rows_kept t n is = record {
  ascend = λ i j d less low. absurd (omega (arith, low));
  below = λ k d low. absurd (omega (arith, low));
  few = omega arith;
  typed = λ k d low. absurd (omega (arith, low));
  distinct = subst (λ (ns : List Name). AllPairs (λ (p q : Name). p ≡ q → ⊥) ns) (sym (map-map (λ (c : Name × Kind). c.0) (λ (c : TableColumn). (c.name, c.kind)) t)) is.distinct;
}

-- the sides of two tables, and the ids of their rows under their keys
pub kept_given : (l r : Table) (a b : Name) (nulls : Bool) (ids : Side → RowKey → List ℕ) → IsTable l → IsTable r → AreRows (side_of l a) → AreRows (side_of r b)
    → ((k : RowKey) → ids side.Left k ≡ agreeing nulls (side_of l a) (datum k.value)) → ((k : RowKey) → ids side.Right k ≡ agreeing nulls (side_of r b) (datum k.value))
    → columns_refusal (by_names l r (a ∷ []) (b ∷ []) (kept_args nulls)) ≡ None → IsKept (given l r a b nulls) ids
kept_given l r a b nulls ids x y left right in_left in_right valid = record {
  left = left;
  right = right;
  grouped = grouped;
  valid = sym (rowless (given l r a b nulls)) ∙ given_refusal l r a b nulls x y ∙ valid;
}
  where
    grouped : AreGrouped (given l r a b nulls) ids
    grouped side.Left k = in_left k
    grouped side.Right k = in_right k

pub as_cause : (a b : Option PolarsError) (e : PolarsError) → a ≡ b → (e ≡ OutOfMemory) ⊎ (b ≡ Some e) → (e ≡ OutOfMemory) ⊎ (a ≡ Some e)
as_cause a b e is h = subst (λ (o : Option PolarsError). (e ≡ OutOfMemory) ⊎ (o ≡ Some e)) (sym is) h

-- THE ROWS

fields_fit : (cs : Table) (i : ℕ) → All IsTyped cs → All (λ (c : TableColumn). i < length c.values) cs → FitsFields (schema_of cs) (row_at cs i)
fields_fit [] i typed low = tt
fields_fit (c ∷ cs) i typed low = (
  All-head IsTyped c cs typed i null (All-head (λ (d : TableColumn). i < length d.values) c cs low),
  fields_fit cs i (All-tail IsTyped c cs typed) (All-tail (λ (d : TableColumn). i < length d.values) c cs low),
)

pub long_columns : (t : Table) (i : ℕ) → IsTable t → i < height t → All (λ (c : TableColumn). i < length c.values) t
long_columns t i x low = λ k d under. omega (arith, low, x.one_height k d under)

pub row_fits : (t : Table) (i : ℕ) → IsTable t → i < height t → FitsFields (schema_of t) (row_at t i)
row_fits t i x low = fields_fit t i x.typed (long_columns t i x low)

pub numbered_more : {X : Type 0} (k : ℕ) (xs : List X) (x : X) → enumerate_from k (xs ++ x ∷ []) ≡ enumerate_from k xs ++ (k + length xs, x) ∷ []
numbered_more k [] x = let same : k ≡ k + 0 = omega arith in ap (λ n. (n, x) ∷ []) same
numbered_more {X} k (y ∷ xs) x = let same : (k + 1) + length xs ≡ k + suc (length xs) = omega arith in
    ap (λ (l : List (ℕ × X)). (k, y) ∷ l) (numbered_more (k + 1) xs x ∙ ap (λ n. enumerate_from (k + 1) xs ++ (n, x) ∷ []) same)

pub rows_more : (t : Table) (i : ℕ) → enumerate_from 0 (map (row_at t) (row_numbers i)) ++ (i, row_at t i) ∷ [] ≡ enumerate_from 0 (map (row_at t) (row_numbers (i + 1)))
rows_more t i =
    let some : List (List Datum) = map (row_at t) (row_numbers i) in
    let long : 0 + length some ≡ i = omega (arith, length-map (row_numbers i) (row_at t), length-range_with_len 0 i) in
    sym (ap (λ (l : List ℕ). enumerate_from 0 (map (row_at t) l)) (row_numbers_more i)
    ∙ ap (enumerate_from 0) (map-append (row_at t) (row_numbers i) (i ∷ []))
    ∙ numbered_more 0 some (row_at t i)
    ∙ ap (λ n. enumerate_from 0 some ++ (n, row_at t i) ∷ []) long)

pub row_long : (cs : List Col) (i : ℕ) → length (row_at (table_of cs) i) ≡ length cs
row_long cs i = length-map (table_of cs) (λ (c : TableColumn). get_or c.values i null) ∙ length-map cs plain_column

pub long_cells : (cs : List Col) (i : ℕ) → IsTable (table_of cs) → i < height (table_of cs) → All (λ (c : Col). i < length (values c)) cs
long_cells cs i x low = all_plain (λ (c : TableColumn). i < length c.values) cs (long_columns (table_of cs) i x low)

-- a side with some rows of a table
rows_kept : (t : Table) (n : Name) → IsTable t → (i : ℕ) → i ≤ height t → height t ≤ MAX_ROWS → AreRows (with_first t i (no_rows_of t n))
rows_kept t n is zero low few = no_rows_kept t n is
rows_kept t n is (suc i) low few =
    let here : i < height t = omega (arith, low) in
    let next : i + 1 ≡ suc i = omega arith in
    subst (λ (j : ℕ). AreRows (with_first t j (no_rows_of t n))) next
    (subst (λ (s : SideState). AreRows s) (ap (λ (l : List Row). record (no_rows_of t n) { rows = l; ever = i + 1 }) (rows_more t i))
    (rows_appended (with_first t i (no_rows_of t n)) (row_at t i) (rows_kept t n is i (omega (arith, low)) few) (row_fits t i is here) (omega (arith, here, few))))

-- a side with all of them
pub given_rows_kept : (t : Table) (n : Name) → IsTable t → height t ≤ MAX_ROWS → AreRows (side_of t n)
given_rows_kept t n is few = rows_kept t n is (height t) (omega arith) few
