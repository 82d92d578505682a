-- A table, from the records of its text.
use Rattle.std.proofs.Common.{◌≡◌, ◌≢◌, ◌≤◌, ◌<◌, ◌+◌, ◌∷◌, ◌∙◌, [], ℕ, zero, suc, List, Bool, true, false, Option, Some, None, length, map, get_or, refl, sym, ap, subst, arith, ◌==◌, not, cond}
use Rattle.std.specs.Prelude.{is_none, nat_lt}
use Rattle.std.specs.Option.{option_map}
use Rattle.std.specs.List.{All, AllPairs, range_with_len}
use Rattle.std.proofs.lemmas.Bool.Decides.{nat_tests}
use Rattle.std.proofs.lemmas.List.{get_or-map, length-map}
use Rattle.std.proofs.lemmas.List.Elements.{All-head, All-tail}
use Rattle.std.proofs.lemmas.List.FromFn.{length-range_with_len}
use Rattle.std.proofs.lemmas.Cmp.{nat_list_eq_equiv}
use Rattle.std.proofs.lemmas.Slice.Eq.{bytes_eq-Decides}
use Rattle.tb_value.specs.Promise.Datum.{Datum, null}
use Rattle.tb_value.specs.Promise.Kind.{Kind}
use Rattle.tb_value.specs.Promise.Kind as kind
use Rattle.tb_value.specs.Promise.Names.{Name, same_name}
use Rattle.tb_value.specs.Promise.Pairs.{row_numbers}
use Rattle.tb_value.specs.Promise.Typed.{HasType}
use Rattle.tb_value.specs.declared.limits.TheConstants.{MAX_ROWS}
use Rattle.tb_frame.specs.Promise.Refusal.{name_at}
use Rattle.tb_frame.specs.Promise.Table.{IsTyped, Table, TableColumn, height, names_of}
use Rattle.tb_frame.proofs.Causes.{unrepeated_names}
use Rattle.tb_value.specs.Promise.Refusals.{first_cause, when}
use Rattle.tb_csv.specs.Promise.Faults.{column_fault, columns_fault, csv_refusal, records_fault, repeated_name, rows_fault, typed_fault}
use Rattle.tb_csv.specs.Laws.{IsPlain, IsTold, comma, types_of}
use Rattle.tb_csv.specs.Promise.Records.{Field, Record, bytes_of, column_fields, is_text, line_of, records_of}
use Rattle.tb_csv.specs.Promise.Tables.{csv_column, csv_columns, csv_table, typed_column}
use Rattle.tb_csv.specs.Promise.Texts.{csv_text, field_among, field_type, no_column, no_text, row_fields}
use Rattle.tb_csv.specs.Promise.Types.{cell_of, column_type, given_type, or_string, or_told, value_or_null}
use Rattle.tb_csv.specs.declared.fault.CsvFault.{CsvFault}
use Rattle.tb_csv.specs.declared.fault.CsvFault.TheVariants.{NoText, NotUtf8, RepeatedName, TooManyRows}
use Rattle.tb_csv.specs.declared.field_type.FieldType.{FieldType}
use Rattle.tb_csv.proofs.Causes.{first_parts, none_later}
use Rattle.tb_csv.proofs.CellsBack.{field_is_text, kind_back, value_back}
use Rattle.tb_csv.proofs.RecordsBack.{closed, records_back}

-- LISTS BY THEIR PLACES

listed_by : {X : Type 0} (g : ℕ → X) (xs : List X) (k : ℕ) → ((i : ℕ) (d : X) → i < length xs → g (k + i) ≡ get_or xs i d) → map g (range_with_len k (length xs)) ≡ xs
listed_by g [] k h = refl
listed_by g (x ∷ xs) k h =
    let at : k + 0 ≡ k = omega arith in
    let head : g k ≡ x = subst (λ (n : ℕ). g n ≡ x) at (h 0 x (omega arith)) in
    let rest = listed_by g xs (k + 1) (λ i d low.
    let next : k + suc i ≡ (k + 1) + i = omega arith in subst (λ (n : ℕ). g n ≡ get_or xs i d) next (h (suc i) d (omega (arith, low)))) in
    ap (λ y. y ∷ map g (range_with_len (k + 1) (length xs))) head ∙ ap (λ ys. x ∷ ys) rest

same_map : {X Y : Type 0} (f g : X → Y) (xs : List X) → ((x : X) → f x ≡ g x) → map f xs ≡ map g xs
same_map f g [] h = refl
same_map f g (x ∷ xs) h = ap (λ y. y ∷ map f xs) (h x) ∙ ap (λ ys. g x ∷ ys) (same_map f g xs h)

get_in : {X : Type 0} (xs : List X) (i : ℕ) (d e : X) → i < length xs → get_or xs i d ≡ get_or xs i e
get_in [] i d e low = absurd (omega (arith, low))
get_in (x ∷ xs) zero d e low = refl
get_in (x ∷ xs) (suc i) d e low = get_in xs i d e (omega (arith, low))

-- A COLUMN

two_maps : {A B C : Type 0} (f : B → C) (g : A → B) (xs : List A) → map (λ x. f (g x)) xs ≡ map f (map g xs)
two_maps f g [] = refl
two_maps f g (x ∷ xs) = ap (λ ys. f (g x) ∷ ys) (two_maps f g xs)

-- the rows of a table's text
abbrev rows_text_of : Table → List Record
rows_text_of t = map (row_fields t) (row_numbers (height t))

-- the field of a row of a column
abbrev field_at : ℕ → ℕ → TableColumn → Field
field_at w n k = field_among w k.kind (get_or k.values n null)

field_at_place : (t : Table) (j n : ℕ) (c : TableColumn) → j < length t → get_or t j c ≡ c → get_or (row_fields t n) j None ≡ field_among (length t) c.kind (get_or c.values n null)
field_at_place t j n c low is = get_or-map (field_at (length t) n) t j c None low ∙ ap (field_at (length t) n) is

fields_back : (t : Table) (j : ℕ) (c : TableColumn) → j < length t → get_or t j c ≡ c → length c.values ≡ height t → column_fields (rows_text_of t) j ≡ map (field_among (length t) c.kind) c.values
fields_back t j c low is level =
    sym (two_maps (λ (r : Record). get_or r j None) (row_fields t) (row_numbers (height t)))
    ∙ same_map _ (λ n. field_among (length t) c.kind (get_or c.values n null)) (row_numbers (height t)) (λ n. field_at_place t j n c low is)
    ∙ ap (λ h. map (λ n. field_among (length t) c.kind (get_or c.values n null)) (row_numbers h)) (sym level)
    ∙ two_maps (field_among (length t) c.kind) (λ n. get_or c.values n null) (row_numbers (length c.values))
    ∙ ap (map (field_among (length t) c.kind)) (listed_by (λ n. get_or c.values n null) c.values 0 (λ i d small. let at : 0 + i ≡ i = omega arith in rw at (get_in c.values i null d small)))

values_back : (w : ℕ) (k : Kind) (vs : List Datum) → is_none (field_type k) ≡ false → All (HasType k) vs → All (IsPlain w k) vs → map (cell_of (or_string (field_type k))) (map (field_among w k) vs) ≡ vs
values_back w k [] some typed full = refl
values_back w k (v ∷ vs) some typed full =
    let back = value_back w k some v (All-head (HasType k) v vs typed) (All-head (IsPlain w k) v vs full) in
    ap (λ x. x ∷ map (cell_of (or_string (field_type k))) (map (field_among w k) vs)) (ap value_or_null back)
    ∙ ap (λ xs. v ∷ xs) (values_back w k vs some (All-tail (HasType k) v vs typed) (All-tail (IsPlain w k) v vs full))

no_fault : (w : ℕ) (k : Kind) (name : Name) (i : ℕ) (vs : List Datum) → is_none (field_type k) ≡ false → All (HasType k) vs → All (IsPlain w k) vs → column_fault name (or_string (field_type k)) i (map (field_among w k) vs) ≡ None
no_fault w k name i [] some typed full = refl
no_fault w k name i (v ∷ vs) some typed full =
    let back = value_back w k some v (All-head (HasType k) v vs typed) (All-head (IsPlain w k) v vs full) in
    rw back (no_fault w k name (i + 1) vs some (All-tail (HasType k) v vs typed) (All-tail (IsPlain w k) v vs full))

-- ITS TYPE

apart : (m n : Name) (b : Bool) → same_name m n ≡ b → (m ≡ n → ⊥) → b ≡ false
apart m n true e h = absurd (h ((bytes_eq-Decides m n).0 e))
apart m n false e h = refl

found_type : (t : Table) (j : ℕ) (c : TableColumn) → AllPairs (λ (a b : Name). a ≢ b) (names_of t) → j < length t → get_or t j c ≡ c → given_type (types_of t) c.name ≡ Some (or_string (field_type c.kind))
found_type [] j c distinct low is = absurd (omega (arith, low))
found_type (k ∷ ks) zero c distinct low is =
    let named : same_name k.name c.name ≡ true = ap (λ (x : TableColumn). same_name k.name x.name) (sym is) ∙ nat_list_eq_equiv.refl k.name in
    rw named (ap (λ (x : TableColumn). Some (or_string (field_type x.kind))) is)
found_type (k ∷ ks) (suc i) c distinct low is =
    let small : i < length ks = omega (arith, low) in
    let there : get_or (names_of ks) i k.name ≡ c.name = get_or-map (λ (x : TableColumn). x.name) ks i c k.name small ∙ ap (λ (x : TableColumn). x.name) is in
    let other = distinct 0 (suc i) k.name (omega arith) (rw (length-map ks (λ (x : TableColumn). x.name)) (omega (arith, small))) in
    let named : same_name k.name c.name ≡ false = apart k.name c.name (same_name k.name c.name) refl (λ e. other (e ∙ sym there)) in
    rw named (found_type ks i c (λ a b d less within. distinct (suc a) (suc b) d (omega (arith, less)) (omega (arith, within))) small is)

-- what is known of each column
not_found : (b : Bool) (x : TableColumn) (o : Option TableColumn) → option_map (λ (c : TableColumn). NoText c.name) (cond b (Some x) o) ≡ None
    → (b ≡ false) × (option_map (λ (c : TableColumn). NoText c.name) o ≡ None)
not_found true x o h = cc h
not_found false x o h = (refl, h)

texts_at : (t : Table) (j : ℕ) (c : TableColumn) → no_text t ≡ None → j < length t → get_or t j c ≡ c → is_none (field_type c.kind) ≡ false
texts_at [] j c none low is = absurd (omega (arith, low))
texts_at (k ∷ ks) zero c none low is = subst (λ (x : TableColumn). is_none (field_type x.kind) ≡ false) is (not_found (is_none (field_type k.kind)) k _ none).0
texts_at (k ∷ ks) (suc i) c none low is = texts_at ks i c (not_found (is_none (field_type k.kind)) k _ none).1 (omega (arith, low)) is

column_is : (c : TableColumn) (k : Kind) (vs : List Datum) → k ≡ c.kind → vs ≡ c.values → ◌≡◌ {A = TableColumn} (record { name = c.name; kind = k; values = vs }) c
column_is c k vs kinds same = rw (kinds, same) refl

typed_same : (m n : Name) (t u : FieldType) (fs gs : List Field) → m ≡ n → t ≡ u → fs ≡ gs → typed_column m t fs ≡ typed_column n u gs
typed_same m n t u fs gs names types same = rw (names, types, same) refl

fault_same : (m n : Name) (t u : FieldType) (fs gs : List Field) → m ≡ n → t ≡ u → fs ≡ gs → column_fault n u 1 gs ≡ None → column_fault m t 1 fs ≡ None
fault_same m n t u fs gs names types same none = rw (names, types, same) none

column_back : (t : Table) → IsTold t → (j : ℕ) (c : TableColumn) → j < length t → get_or t j c ≡ c
    → (csv_column (types_of t) (names_of t) (rows_text_of t) j ≡ c) × (typed_fault (types_of t) (names_of t) (rows_text_of t) j ≡ None)
column_back t told j c low is =
    let written = first_parts (no_column t) (no_text t ∷ []) told.written in
    let some = texts_at t j c (first_parts (no_text t) [] written.1).0 low is in
    let level = subst (λ (x : TableColumn). length x.values ≡ height t) is (told.table.one_height j c low) in
    let typed = subst (λ (x : TableColumn). All (HasType x.kind) x.values) is (told.table.typed j c low) in
    let full = subst (λ (x : TableColumn). All (IsPlain (length t) x.kind) x.values) is (told.plain j c low) in
    let fields = fields_back t j c low is level in
    let named : name_at (names_of t) j ≡ c.name = get_or-map (λ (x : TableColumn). x.name) t j c [] low ∙ ap (λ (x : TableColumn). x.name) is in
    let t_is : column_type (types_of t) (name_at (names_of t) j) (column_fields (rows_text_of t) j) ≡ or_string (field_type c.kind) =
    ap (λ (n : Name). or_told (column_fields (rows_text_of t) j) (given_type (types_of t) n)) named ∙ ap (or_told (column_fields (rows_text_of t) j)) (found_type t j c told.table.distinct low is) in (
      typed_same _ c.name _ (or_string (field_type c.kind)) _ (map (field_among (length t) c.kind) c.values) named t_is fields
          ∙ column_is c _ _ (kind_back c.kind some) (values_back (length t) c.kind c.values some typed full),
      fault_same _ c.name _ (or_string (field_type c.kind)) _ (map (field_among (length t) c.kind) c.values) named t_is fields (no_fault (length t) c.kind c.name 1 c.values some typed full),
    )

-- THE ROWS

typed_at : (k : Kind) (vs : List Datum) (n : ℕ) → All (HasType k) vs → HasType k (get_or vs n null)
typed_at k [] n all = tt
typed_at k (v ∷ vs) zero all = All-head (HasType k) v vs all
typed_at k (v ∷ vs) (suc n) all = typed_at k vs n (All-tail (HasType k) v vs all)

row_is_text : (w : ℕ) (t : Table) (n : ℕ) → All IsTyped t → is_text (line_of (map (field_at w n) t)) ≡ true
row_is_text w [] n all = refl
row_is_text w (c ∷ cs) n all =
    rw (field_is_text w c.kind (get_or c.values n null) (typed_at c.kind c.values n (All-head IsTyped c cs all)), row_is_text w cs n (All-tail IsTyped c cs all)) refl

rows_pass : (w i : ℕ) (f : ℕ → Record) (ns : List ℕ) → ((n : ℕ) → (length (line_of (f n)) == w) ≡ true) → ((n : ℕ) → is_text (line_of (f n)) ≡ true) → rows_fault w i (map line_of (map f ns)) ≡ None
rows_pass w i f [] wide text = refl
rows_pass w i f (n ∷ ns) wide text = rw (wide n, text n) (none_later _ _ (rows_pass w (i + 1) f ns wide text) refl)

equal : (a b : ℕ) → a ≡ b → (a == b) ≡ true
equal a b e = grind (arith, nat_tests)

not_more : (a b : ℕ) → b ≤ a → nat_lt a b ≡ false
not_more a b h = grind (arith, nat_tests)

all_none : (f : ℕ → Option CsvFault) (k n : ℕ) → ((i : ℕ) → i < n → f (k + i) ≡ None) → first_cause (map f (range_with_len k n)) ≡ None
all_none f k zero h = refl
all_none f k (suc n) h =
    let at : k + 0 ≡ k = omega arith in
    none_later (f k) (map f (range_with_len (k + 1) n)) (subst (λ (i : ℕ). f i ≡ None) at (h 0 (omega arith))) (all_none f (k + 1) n (λ i low.
    let next : k + suc i ≡ (k + 1) + i = omega arith in subst (λ (m : ℕ). f m ≡ None) next (h (suc i) (omega (arith, low)))))

wide : (t : Table) (n : ℕ) → (length (line_of (row_fields t n)) == length (names_of t)) ≡ true
wide t n = equal _ _ (length-map (row_fields t n) bytes_of ∙ length-map t (field_at (length t) n) ∙ sym (length-map t (λ (c : TableColumn). c.name)))

rows_sound : (t : Table) → IsTold t → rows_fault (length (names_of t)) 1 (map line_of (rows_text_of t)) ≡ None
rows_sound t told =
    rows_pass (length (names_of t)) 1 (row_fields t) (row_numbers (height t)) (wide t) (λ n. row_is_text (length t) t n told.table.typed)

few_rows : (t : Table) → IsTold t → nat_lt MAX_ROWS (length (map line_of (rows_text_of t))) ≡ false
few_rows t told =
    let count : length (map line_of (rows_text_of t)) ≡ height t = length-map (rows_text_of t) line_of ∙ length-map (row_numbers (height t)) (row_fields t) ∙ length-range_with_len 0 (height t) in
    not_more MAX_ROWS (length (map line_of (rows_text_of t))) (omega (arith, count, told.few))

names_back : (ns : List Name) → line_of (map (λ n. Some n) ns) ≡ ns
names_back [] = refl
names_back (n ∷ ns) = ap (λ (l : List Name). n ∷ l) (names_back ns)

records_sound : (t : Table) → IsTold t → records_fault (names_of t ∷ map line_of (rows_text_of t)) ≡ None
records_sound t told =
    let names : when (not (is_text (names_of t))) (NotUtf8 0) ≡ None = rw told.names refl in
    let apart : repeated_name (names_of t) ≡ None = ap (option_map (λ (n : Name). RepeatedName n)) (unrepeated_names (names_of t) told.table.distinct) in
    let few : when (nat_lt MAX_ROWS (length (map line_of (rows_text_of t)))) TooManyRows ≡ None = rw (few_rows t told) refl in
    none_later _ _ names (none_later _ _ apart (none_later _ _ (rows_sound t told) (none_later _ [] few refl)))

columns_sound : (t : Table) → IsTold t → columns_fault (types_of t) (names_of t) (rows_text_of t) ≡ None
columns_sound t told =
    all_none (typed_fault (types_of t) (names_of t) (rows_text_of t)) 0 (length (names_of t)) (λ i low.
    let at : 0 + i ≡ i = omega arith in
    let d : TableColumn = get_or t i (record { name = []; kind = kind.null; values = [] }) in
    let small : i < length t = rw (length-map t (λ (c : TableColumn). c.name)) at low in
    rw at (column_back t told i d small (get_in t i d _ small)).1)

columns_same : (t : Table) → IsTold t → csv_columns (types_of t) (names_of t) (rows_text_of t) ≡ t
columns_same t told =
    ap (λ (n : ℕ). map (csv_column (types_of t) (names_of t) (rows_text_of t)) (row_numbers n)) (length-map t (λ (c : TableColumn). c.name))
    ∙ listed_by (csv_column (types_of t) (names_of t) (rows_text_of t)) t 0 (λ i d low.
    let at : 0 + i ≡ i = omega arith in rw at (column_back t told i (get_or t i d) low (get_in t i (get_or t i d) d low)).0)

pub round_trip : (t : Table) → IsTold t
    → (csv_refusal (types_of t) comma (csv_text comma t) ≡ None) × (csv_table (types_of t) (records_of comma (csv_text comma t)) ≡ t)
round_trip t told =
    let written = first_parts (no_column t) (no_text t ∷ []) told.written in
    let back = records_back t written.0 told.front in
    let shut = closed t written.0 told.front in
    rw (shut, back, names_back (names_of t))
    (none_later _ _ (none_later _ [] (records_sound t told) refl) (none_later _ [] (columns_sound t told) refl), columns_same t told)
