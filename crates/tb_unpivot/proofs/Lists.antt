-- Lists of lent columns, and the columns that are made of them.
use Rattle.std.proofs.Common.{add-one, append_assoc, drop, drop-cons, get_or, take, Option, Some, arith, ◌≡◌, ◌∙◌, ◌≤◌, ◌<◌, ◌*◌, ◌+◌, ℕ, zero, suc, List, [], ◌∷◌, ◌++◌, length, map, replicate, ap, sym, refl, subst, length-append}
use Rattle.std.specs.Borrow.{Bor}
use Rattle.std.specs.Prelude.{filter, not}
use Rattle.std.specs.List.{All, flat_map}
use Rattle.std.proofs.Math.Nat.{mul-suc}
use Rattle.std.proofs.lemmas.List.{append-nil, map-append, map_push, length-map, length-replicate, take_more, nil_from_length}
use Rattle.std.proofs.lemmas.List.Elements.{All-nil, All-cons, All-head, All-tail, All-replicate}
use Rattle.tb_value.specs.Promise.Datum.{Datum, string}
use Rattle.tb_value.specs.Promise.Kind.{Kind}
use Rattle.tb_value.specs.Promise.Kind as kind
use Rattle.tb_value.specs.Promise.Names.{Name}
use Rattle.tb_value.specs.Promise.Typed.{HasType}
use Rattle.tb_value.specs.declared.limits.TheConstants.{MAX_ROWS}
use Rattle.tb_value.specs.declared.sorted.IsSorted.TheVariants.{Not}
use Rattle.tb_chunk.specs.Chunk.{or_null}
use Rattle.tb_chunk.specs.Promise.Col.{Col, concatenation, values}
use Rattle.tb_chunk.specs.Col.{IsColumn}
use Rattle.tb_chunk.specs.Lent.{lent_columns}
use Rattle.tb_chunk.specs.Promise.Made.{at_least_one}
use Rattle.tb_view.specs.Promise.ViewArrays.{ViewArray}
use Rattle.tb_frame.specs.Promise.Frame.{selected_columns}
use Rattle.tb_frame.specs.Frame.{without_names}
use Rattle.tb_frame.specs.Promise.Naming.{is_among}
use Rattle.tb_frame.specs.Promise.Table.{TableColumn, Table, names_of, plain_column, table_of}
use Rattle.tb_value.proofs.Kept.{filter-map}
use Rattle.tb_supertype.specs.Promise.Cast.{cast}
use Rattle.tb_supertype.specs.Columns.{CastsTo, IsStacked, cast_values}
use Rattle.tb_supertype.proofs.Stacks.{flat-at_least_one}
use Rattle.tb_unpivot.specs.Promise.Unpivot.{long_table, on_names, repeated, value_column, variable_column}
use Rattle.tb_unpivot.proofs.CommonKinds.{cast_same}

-- LENT COLUMNS

pub lent_push : (rs more : List (Bor Col)) (r : Bor Col) (c : Col) → more ≡ rs ++ r ∷ [] → r.now ≡ c → lent_columns more ≡ lent_columns rs ++ c ∷ []
lent_push rs more r c e is =
    ap lent_columns e ∙ map_push (λ (b : Bor Col). b.now) rs r ∙ ap (λ (d : Col). lent_columns rs ++ d ∷ []) is

pub un_lent : (P : Col → Type 0) (rs : List (Bor Col)) → All P (lent_columns rs) → All (λ (r : Bor Col). P r.now) rs
un_lent P [] all = All-nil (λ (r : Bor Col). P r.now)
un_lent P (r ∷ rs) all = All-cons (λ (r : Bor Col). P r.now) r rs (All-head P r.now (lent_columns rs) all) (un_lent P rs (All-tail P r.now (lent_columns rs) all))

pub lent_values : (rs : List (Bor Col)) → map (λ (r : Bor Col). values r.now) rs ≡ map values (lent_columns rs)
lent_values [] = refl
lent_values (r ∷ rs) = ap (λ (l : List (List Datum)). values r.now ∷ l) (lent_values rs)

-- one column more
pub lent_more : (rs : List (Bor Col)) (i : ℕ) (r : Bor Col) → i < length rs → r ≡ get_or rs i r → lent_columns (take (i + 1) rs) ≡ lent_columns (take i rs) ++ r.now ∷ []
lent_more rs i r low is =
    ap lent_columns (take_more rs i r low ∙ ap (λ (b : Bor Col). take i rs ++ b ∷ []) (sym is)) ∙ map_push (λ (b : Bor Col). b.now) (take i rs) r

-- columns of one length have so many values
pub level_values : (n : ℕ) (cs : List Col) → All (λ (c : Col). length (values c) ≡ n) cs → length (concatenation (map values cs)) ≡ n * length cs
level_values n [] level = omega arith
level_values n (c ∷ cs) level =
    let P : Col → Type 0 = λ d. length (values d) ≡ n in
    omega (arith, length-append (values c) (concatenation (map values cs)), All-head P c cs level, level_values n cs (All-tail P c cs level), mul-suc n (length cs))

-- A COLUMN SO MANY TIMES

replicated : {X Y : Type 0} (f : X → Y) (n : ℕ) (x : X) → map f (replicate n x) ≡ replicate n (f x)
replicated f zero x = refl
replicated {X} {Y} f (suc n) x = ap (λ (l : List Y). f x ∷ l) (replicated f n x)

pub repeated_few : (rs : List (Bor Col)) (n : ℕ) (c : Col) → lent_columns rs ≡ replicate n c → length (values c) * n ≤ MAX_ROWS
    → length (concatenation (map (λ (r : Bor Col). values r.now) rs)) ≤ MAX_ROWS
repeated_few rs n c e few =
    let all : All (λ (d : Col). length (values d) ≡ length (values c)) (replicate n c) = All-replicate (λ (d : Col). length (values d) ≡ length (values c)) n c refl in
    let k : length (concatenation (map values (replicate n c))) ≡ length (values c) * length (replicate n c) = level_values (length (values c)) (replicate n c) all in
    rw (lent_values rs, e) (omega (arith, k, ap (λ m. length (values c) * m) (length-replicate n c)))

pub repeated_typed : (rs : List (Bor Col)) (n : ℕ) (c : Col) (t : Kind) → lent_columns rs ≡ replicate n c → t ≡ c.kind → IsColumn c → All (λ (r : Bor Col). CastsTo t r.now) rs
repeated_typed rs n c t e same column =
    let own : CastsTo c.kind c = subst (All (HasType c.kind)) (sym (cast_same c.kind (values c) column.typed)) column.typed in
    subst (λ (k : Kind). All (λ (r : Bor Col). CastsTo k r.now) rs) (sym same)
    (un_lent (CastsTo c.kind) rs (subst (λ (ds : List Col). All (CastsTo c.kind) ds) (sym e) (All-replicate (CastsTo c.kind) n c own)))

pub stacked_plain : (n : Name) (t : Kind) (cs : List Col) (d : Col) → IsStacked n t cs d → plain_column d ≡ record { name = n; kind = t; values = concatenation (map (cast_values t) cs) }
stacked_plain n t cs d e = ap plain_column e ∙ ap (λ (vs : List Datum). record { name = n; kind = t; values = vs }) (flat-at_least_one (map (cast_values t) cs))

pub repeated_is : (n : ℕ) (c d : Col) → IsColumn c → IsStacked c.name c.kind (replicate n c) d → plain_column d ≡ repeated n (plain_column c)
repeated_is n c d column e =
    stacked_plain c.name c.kind (replicate n c) d e
    ∙ ap (λ (l : List (List Datum)). record { name = c.name; kind = c.kind; values = concatenation l }) (replicated (cast_values c.kind) n c ∙ ap (replicate n) (cast_same c.kind (values c) column.typed))

pub repeated_made : (d c : Col) (n : Name) (t : Kind) (rs : List (Bor Col)) (times : ℕ) → IsStacked n t (lent_columns rs) d → n ≡ c.name → t ≡ c.kind
    → lent_columns rs ≡ replicate times c → IsColumn c → plain_column d ≡ repeated times (plain_column c)
repeated_made d c n t rs times e named kinded lent column =
    repeated_is times c d column (e ∙ (λ i. record { name = named i; kind = kinded i; chunks = at_least_one (map (cast_values (kinded i)) (lent i)); flag = Not; view_arrays = d.view_arrays }))

pub repeats_more : (times : ℕ) (done more : List Col) (rs : List (Bor Col)) (i : ℕ) (r : Bor Col) (d : Col) → i < length rs → r ≡ get_or rs i r → more ≡ done ++ d ∷ []
    → plain_column d ≡ repeated times (plain_column r.now) → table_of done ≡ map (repeated times) (table_of (lent_columns (take i rs)))
    → table_of more ≡ map (repeated times) (table_of (lent_columns (take (i + 1) rs)))
repeats_more times done more rs i r d low is e made so_far =
    ap table_of e ∙ map_push plain_column done d ∙ (λ t. so_far t ++ made t ∷ [])
    ∙ sym (ap (λ (cs : List Col). map (repeated times) (table_of cs)) (lent_more rs i r low is)
    ∙ ap (map (repeated times)) (map_push plain_column (lent_columns (take i rs)) r.now)
    ∙ map_push (repeated times) (table_of (lent_columns (take i rs))) (plain_column r.now))

-- THE COLUMNS OF VALUES AND NAMES

cast_each : (t : Kind) (cs : List Col) → concatenation (map (cast_values t) cs) ≡ flat_map (λ (o : TableColumn). map (cast t) o.values) (table_of cs)
cast_each t [] = refl
cast_each t (c ∷ cs) = ap (λ (l : List Datum). cast_values t c ++ l) (cast_each t cs)

pub value_is : (n : Name) (t : Kind) (cs : List Col) (d : Col) → IsStacked n t cs d → plain_column d ≡ value_column n t (table_of cs)
value_is n t cs d e = stacked_plain n t cs d e ∙ ap (λ (vs : List Datum). record { name = n; kind = t; values = vs }) (cast_each t cs)

abbrev pub names_at : Col → List Datum
names_at c = map (λ (d : Datum). string c.name) (values c)

pub names_each : (cs : List Col) → flat_map names_at cs ≡ flat_map (λ (o : TableColumn). map (λ (v : Datum). string o.name) o.values) (table_of cs)
names_each [] = refl
names_each (c ∷ cs) = ap (λ (l : List Datum). names_at c ++ l) (names_each cs)

names_count : (cs : List Col) → length (flat_map names_at cs) ≡ length (concatenation (map values cs))
names_count [] = refl
names_count (c ∷ cs) = omega (arith, length-append (names_at c) (flat_map names_at cs), length-append (values c) (concatenation (map values cs)), length-map (values c) (λ (d : Datum). string c.name), names_count cs)

pub names_few : (cells : List (Option Name)) (rs : List (Bor Col)) → map (or_null string) cells ≡ flat_map names_at (lent_columns rs)
    → length (concatenation (map (λ (r : Bor Col). values r.now) rs)) ≤ MAX_ROWS → length cells ≤ MAX_ROWS
names_few cells rs e few =
    omega (arith, length-map cells (or_null string), ap (λ (vs : List Datum). length vs) e, names_count (lent_columns rs), ap (λ (l : List (List Datum)). length (concatenation l)) (lent_values rs))

-- a column of one chunk of texts
pub text_column_is : (d : Col) (vs : List Datum) → length vs ≤ MAX_ROWS → All (HasType kind.string) vs → d.kind ≡ kind.string → d.chunks ≡ vs ∷ [] → d.flag ≡ Not → IsColumn d
text_column_is d vs few typed same_kind one not =
    let all : values d ≡ vs = ap concatenation one ∙ append-nil vs in
    record {
      chunked = omega (arith, ap length one);
      short = omega (arith, ap length all);
      typed = rw (same_kind, all) typed;
      flag_holds = rw not tt;
    }

pub text_plain : {rs : List ViewArray} (d : Col) (n : Name) (k : Kind) (chunks : List (List Datum)) (vs : List Datum) → d ≡ record { name = n; kind = k; chunks = chunks; flag = Not; view_arrays = rs } → k ≡ kind.string
    → chunks ≡ vs ∷ [] → plain_column d ≡ record { name = n; kind = kind.string; values = vs }
text_plain d n k chunks vs e same one =
    ap plain_column e ∙ (λ t. record { name = n; kind = same t; values = concatenation (one t) }) ∙ ap (λ (l : List Datum). record { name = n; kind = kind.string; values = l }) (append-nil vs)

names_again : (x : Datum) (vs : List Datum) → map (λ (d : Datum). x) vs ≡ replicate (length vs) x
names_again x [] = refl
names_again x (v ∷ vs) = ap (λ (l : List Datum). x ∷ l) (names_again x vs)

-- the name of one column more, as often as it has values
pub names_more : (cells more : List (Option Name)) (rs : List (Bor Col)) (i : ℕ) (r : Bor Col) (n : Name) (k : ℕ) → i < length rs → r ≡ get_or rs i r → n ≡ r.now.name
    → k ≡ length (values r.now) → more ≡ cells ++ replicate k (Some n) → map (or_null string) cells ≡ flat_map names_at (lent_columns (take i rs))
    → map (or_null string) more ≡ flat_map names_at (lent_columns (take (i + 1) rs))
names_more cells more rs i r n k low is named long e so_far =
    let again : map (or_null string) (replicate k (Some n)) ≡ names_at r.now = replicated (or_null string) k (Some n) ∙ (λ j. replicate (long j) (string (named j))) ∙ sym (names_again (string r.now.name) (values r.now)) in
    ap (map (or_null string)) e ∙ map-append (or_null string) cells (replicate k (Some n)) ∙ (λ j. so_far j ++ again j)
    ∙ sym (ap (flat_map names_at) (lent_more rs i r low is) ∙ flat_push (lent_columns (take i rs)) r.now)
  where
    flat_push : (cs : List Col) (d : Col) → flat_map names_at (cs ++ d ∷ []) ≡ flat_map names_at cs ++ names_at d
    flat_push [] d = append-nil (names_at d)
    flat_push (c ∷ cs) d = ap (λ (l : List Datum). names_at c ++ l) (flat_push cs d) ∙ sym (append_assoc (names_at c) (flat_map names_at cs) (names_at d))

-- the next of columns that are left
pub next_left : (rs : List (Bor Col)) (i : ℕ) (r : Bor Col) → i < length rs → r ≡ get_or rs i r
    → table_of (lent_columns (drop i rs)) ≡ plain_column r.now ∷ table_of (lent_columns (drop (i + 1) rs))
next_left rs i r low is =
    let here : drop i rs ≡ r ∷ drop (i + 1) rs = rw (add-one, drop-cons rs i r) (ap (λ (b : Bor Col). b ∷ drop (suc i) rs) (sym is)) in
    ap (λ (l : List (Bor Col)). table_of (lent_columns l)) here

-- the columns of the index, the names and the values
pub long_made : (t : Kind) (times : ℕ) (on index : List TableColumn) (v w : Name) (cs more all : List Col) (c d : Col) → times ≡ length on → table_of cs ≡ map (repeated times) index
    → more ≡ cs ++ c ∷ [] → all ≡ more ++ d ∷ [] → plain_column c ≡ variable_column v on → plain_column d ≡ value_column w t on → table_of all ≡ long_table t on index v w
long_made t times on index v w cs more all c d many first one two names values =
    ap table_of (two ∙ ap (λ (l : List Col). l ++ d ∷ []) one)
    ∙ map_push plain_column (cs ++ c ∷ []) d ∙ ap (λ (l : List TableColumn). l ++ plain_column d ∷ []) (map_push plain_column cs c)
    ∙ append_assoc (table_of cs) (plain_column c ∷ []) (plain_column d ∷ [])
    ∙ (λ j. (first ∙ ap (λ (n : ℕ). map (repeated n) index) many) j ++ names j ∷ values j ∷ [])

-- THE NAMES

pub name_more : (names more : List Name) (rs : List (Bor Col)) (i : ℕ) (r : Bor Col) (n : Name) → i < length rs → r ≡ get_or rs i r → n ≡ r.now.name → more ≡ names ++ n ∷ []
    → names ≡ names_of (table_of (lent_columns (take i rs))) → more ≡ names_of (table_of (lent_columns (take (i + 1) rs)))
name_more names more rs i r n low is named e so_far =
    e ∙ (λ j. so_far j ++ named j ∷ [])
    ∙ sym (ap (λ (cs : List Col). names_of (table_of cs)) (lent_more rs i r low is)
    ∙ ap names_of (map_push plain_column (lent_columns (take i rs)) r.now)
    ∙ map_push (λ (c : TableColumn). c.name) (table_of (lent_columns (take i rs))) (plain_column r.now))

-- THE COLUMNS THAT ARE NAMED

-- the names outside the index
pub names_left : (index : List Name) (cs : List Col) → map (λ (c : Col). c.name) (without_names index cs) ≡ filter (λ n. not (is_among index n)) (names_of (table_of cs))
names_left index cs = sym (ap (filter (λ n. not (is_among index n))) (names_are cs) ∙ filter-map (λ (c : Col). c.name) (λ n. not (is_among index n)) cs)
  where
    names_are : (cs : List Col) → names_of (table_of cs) ≡ map (λ (c : Col). c.name) cs
    names_are [] = refl
    names_are (c ∷ cs) = ap (λ (l : List Name). c.name ∷ l) (names_are cs)

pub none_named : (t : Table) (on index : List Name) → length on ≡ 0 → on_names t on index ≡ on_names t [] index
none_named t on index e = ap (λ (ns : List Name). on_names t ns index) (nil_from_length on e)

pub some_named : (t : Table) (on index : List Name) → 0 < length on → on_names t on index ≡ on
some_named t [] index h = absurd (omega arith)
some_named t (n ∷ ns) index h = refl

-- in a table without columns nothing is selected
pub selected-none : (names : List Name) → selected_columns names [] ≡ []
selected-none [] = refl
selected-none (n ∷ ns) = selected-none ns
