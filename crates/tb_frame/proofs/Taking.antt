-- Rows that are taken from the columns of a table.
use Rattle.std.proofs.Common.{◌≡◌, ℕ, zero, suc, ◌<◌, List, [], ◌∷◌, length, get_or, map, refl, ap, sym, ◌∙◌, subst, append-nil, arith, Option, Some, None, take, drop}
use Rattle.std.specs.Prelude.{All, AllPairs, ◌≢◌, ◌-◌, min, ℤ}
use Rattle.std.proofs.lemmas.List.{length-map, get_or-map, length-take, length-drop}
use Rattle.std.proofs.lemmas.List.Elements.{All-nil, All-cons, All-head, All-tail, All-map, All-weaker, All-take, All-drop}
use Rattle.tb_value.specs.Promise.Datum.{Datum, null}
use Rattle.tb_value.specs.Promise.Names.{Name}
use Rattle.tb_value.specs.Promise.Typed.{HasType}
use Rattle.tb_chunk.specs.Promise.Col.{Col, values}
use Rattle.tb_chunk.specs.Rows.{IsRowOf, value_or_null}
use Rattle.tb_chunk.specs.Window.{part_from, part_to}
use Rattle.tb_frame.specs.Promise.Table.{TableColumn, plain_column, table_of, height, names_of, IsTable, IsTyped}
use Rattle.tb_frame.specs.Frame.{taken_rows, opt_taken_rows, sliced_rows}
use Rattle.tb_frame.proofs.Frames.{level_height}

pub all_plain : (P : TableColumn → Type 0) (cs : List Col) → All P (table_of cs) → All (λ (c : Col). P (plain_column c)) cs
all_plain P [] h = All-nil (λ (c : Col). P (plain_column c))
all_plain P (c ∷ cs) h = All-cons (λ (c : Col). P (plain_column c)) c cs (All-head P (plain_column c) (table_of cs) h) (all_plain P cs (All-tail P (plain_column c) (table_of cs) h))

-- what holds of the height of the table holds of each column's length
pub of_each_length : (P : ℕ → Type 0) (cs : List Col) → IsTable (table_of cs) → P (height (table_of cs)) → All (λ (c : Col). P (length (values c))) cs
of_each_length P cs t h =
    All-weaker (λ (c : Col). length (values c) ≡ height (table_of cs)) (λ (c : Col). P (length (values c))) (λ c e. subst P (sym e) h) cs
    (all_plain (λ (c : TableColumn). length c.values ≡ height (table_of cs)) cs t.one_height)

-- each row of the table is one of each column
pub rows_in_columns : (cs : List Col) (rows : List ℕ) → IsTable (table_of cs) → All (λ r. r < height (table_of cs)) rows → All (λ (c : Col). All (λ r. r < length (values c)) rows) cs
rows_in_columns cs rows t within = of_each_length (λ n. All (λ r. r < n) rows) cs t within

-- each column made into one of its name
module _ (f : Col → Col) (same : (c : Col) → (f c).name ≡ c.name) where
  pub names-made : (cs : List Col) → names_of (table_of (map f cs)) ≡ names_of (table_of cs)
  names-made [] = refl
  names-made (c ∷ cs) = λ t. same c t ∷ names-made cs t

  pub level-made : (n : ℕ) (cs : List Col) → All (λ (c : Col). length (values (f c)) ≡ n) cs → All (λ (c : TableColumn). length c.values ≡ n) (table_of (map f cs))
  level-made n [] h = All-nil (λ (c : TableColumn). length c.values ≡ n)
  level-made n (c ∷ cs) h =
      All-cons (λ (k : TableColumn). length k.values ≡ n) (plain_column (f c)) (table_of (map f cs)) (All-head (λ (k : Col). length (values (f k)) ≡ n) c cs h)
      (level-made n cs (All-tail (λ (k : Col). length (values (f k)) ≡ n) c cs h))

  pub IsTable-made : (n : ℕ) (cs : List Col) → All (λ (c : Col). length (values (f c)) ≡ n) cs → ((c : Col) → IsTyped (plain_column c) → IsTyped (plain_column (f c))) → IsTable (table_of cs) → IsTable (table_of (map f cs))
  IsTable-made n cs h keeps t = record {
    distinct = subst (λ (ns : List Name). AllPairs (λ (a b : Name). a ≢ b) ns) (sym (names-made cs)) t.distinct;
    one_height = level_height n (table_of (map f cs)) (level-made n cs h);
    typed = All-map IsTyped plain_column (map f cs) (All-map (λ (c : Col). IsTyped (plain_column c)) f cs (All-weaker (λ (c : Col). IsTyped (plain_column c)) (λ (c : Col). IsTyped (plain_column (f c))) keeps cs (all_plain IsTyped cs t.typed)));
  }

-- what holds of Null and of each value holds of the value at any place
pub at_place : (P : Datum → Type 0) (vs : List Datum) (i : ℕ) → P null → All P vs → P (get_or vs i null)
at_place P [] i e h = e
at_place P (v ∷ vs) zero e h = All-head P v vs h
at_place P (v ∷ vs) (suc i) e h = at_place P vs i e (All-tail P v vs h)

-- and so of the value of a row that may be absent
pub at_row : (P : Datum → Type 0) (vs : List Datum) (row : Option ℕ) → P null → All P vs → P (value_or_null vs row)
at_row P vs None e h = e
at_row P vs (Some i) e h = at_place P vs i e h

pub values-taken : (rows : List ℕ) (c : Col) → values (taken_rows rows c) ≡ map (λ r. get_or (values c) r null) rows
values-taken rows c = append-nil (map (λ r. get_or (values c) r null) rows)

length-taken : (rows : List ℕ) (c : Col) → length (values (taken_rows rows c)) ≡ length rows
length-taken rows c = ap (λ (vs : List Datum). length vs) (values-taken rows c) ∙ length-map rows (λ r. get_or (values c) r null)

lengths-taken : (rows : List ℕ) (cs : List Col) → All (λ (c : Col). length (values (taken_rows rows c)) ≡ length rows) cs
lengths-taken rows cs = λ k d low. length-taken rows (get_or cs k d)

typed-taken : (rows : List ℕ) (c : Col) → IsTyped (plain_column c) → IsTyped (plain_column (taken_rows rows c))
typed-taken rows c h = subst (λ (vs : List Datum). All (HasType c.kind) vs) (sym (values-taken rows c)) (All-map (HasType c.kind) (λ r. get_or (values c) r null) rows (λ k d low. at_place (HasType c.kind) (values c) (get_or rows k d) tt h))

pub IsTable-taken : (rows : List ℕ) (cs : List Col) → IsTable (table_of cs) → IsTable (table_of (map (taken_rows rows) cs))
IsTable-taken rows cs t = IsTable-made (taken_rows rows) (λ c. refl) (length rows) cs (lengths-taken rows cs) (typed-taken rows) t

-- the same where rows may be absent
pub rows_or_none : (cs : List Col) (rows : List (Option ℕ)) → IsTable (table_of cs) → All (IsRowOf (height (table_of cs))) rows → All (λ (c : Col). All (IsRowOf (length (values c))) rows) cs
rows_or_none cs rows t within = of_each_length (λ n. All (IsRowOf n) rows) cs t within

pub values-opt_taken : (rows : List (Option ℕ)) (c : Col) → values (opt_taken_rows rows c) ≡ map (value_or_null (values c)) rows
values-opt_taken rows c = append-nil (map (value_or_null (values c)) rows)

pub length-opt_taken : (rows : List (Option ℕ)) (c : Col) → length (values (opt_taken_rows rows c)) ≡ length rows
length-opt_taken rows c = ap (λ (vs : List Datum). length vs) (values-opt_taken rows c) ∙ length-map rows (value_or_null (values c))

lengths-opt_taken : (rows : List (Option ℕ)) (cs : List Col) → All (λ (c : Col). length (values (opt_taken_rows rows c)) ≡ length rows) cs
lengths-opt_taken rows cs = λ k d low. length-opt_taken rows (get_or cs k d)

pub names-opt_taken : (rows : List (Option ℕ)) (cs : List Col) → names_of (table_of (map (opt_taken_rows rows) cs)) ≡ names_of (table_of cs)
names-opt_taken rows cs = names-made (opt_taken_rows rows) (λ c. refl) cs

typed-opt_taken : (rows : List (Option ℕ)) (c : Col) → IsTyped (plain_column c) → IsTyped (plain_column (opt_taken_rows rows c))
typed-opt_taken rows c h = subst (λ (vs : List Datum). All (HasType c.kind) vs) (sym (values-opt_taken rows c)) (All-map (HasType c.kind) (value_or_null (values c)) rows (λ k d low. at_row (HasType c.kind) (values c) (get_or rows k d) tt h))

pub IsTable-opt_taken : (rows : List (Option ℕ)) (cs : List Col) → IsTable (table_of cs) → IsTable (table_of (map (opt_taken_rows rows) cs))
IsTable-opt_taken rows cs t = IsTable-made (opt_taken_rows rows) (λ c. refl) (length rows) cs (lengths-opt_taken rows cs) (typed-opt_taken rows) t

-- how many of n values a slice keeps
abbrev kept_of : ℤ → ℕ → ℕ → ℕ
kept_of offset len n = min (part_to n offset len - part_from n offset) (n - part_from n offset)

length-sliced : (offset : ℤ) (len : ℕ) (c : Col) → length (values (sliced_rows offset len c)) ≡ kept_of offset len (length (values c))
length-sliced offset len c =
    let n = length (values c) in
    let from = part_from n offset in
    let count = part_to n offset len - from in
    ap (λ (vs : List Datum). length vs) (append-nil (take count (drop from (values c)))) ∙ length-take count (drop from (values c)) ∙ ap (min count) (length-drop from (values c))

typed-sliced : (offset : ℤ) (len : ℕ) (c : Col) → IsTyped (plain_column c) → IsTyped (plain_column (sliced_rows offset len c))
typed-sliced offset len c h =
    let n = length (values c) in
    let from = part_from n offset in
    let count = part_to n offset len - from in
    subst (λ (vs : List Datum). All (HasType c.kind) vs) (sym (append-nil (take count (drop from (values c))))) (All-take (HasType c.kind) count (drop from (values c)) (All-drop (HasType c.kind) from (values c) h))

IsTable-sliced : (offset : ℤ) (len : ℕ) (cs : List Col) → IsTable (table_of cs) → IsTable (table_of (map (sliced_rows offset len) cs))
IsTable-sliced offset len cs t =
    let most : ℕ = kept_of offset len (height (table_of cs)) in
    let lengths : All (λ (c : Col). length (values (sliced_rows offset len c)) ≡ most) cs =
    All-weaker (λ (c : Col). kept_of offset len (length (values c)) ≡ most) (λ (c : Col). length (values (sliced_rows offset len c)) ≡ most) (λ c e. length-sliced offset len c ∙ e) cs
    (of_each_length (λ n. kept_of offset len n ≡ most) cs t refl)
    in
    IsTable-made (sliced_rows offset len) (λ c. refl) most cs lengths (typed-sliced offset len) t

pub IsTable-slices : (offset : ℤ) (len : ℕ) (made cs inside : List Col) → made ≡ map (sliced_rows offset len) cs → cs ≡ inside → IsTable (table_of inside) → IsTable (table_of made)
IsTable-slices offset len made cs inside is same t =
    subst (λ (ks : List Col). IsTable (table_of ks)) (sym (is ∙ ap (λ (ks : List Col). map (sliced_rows offset len) ks) same)) (IsTable-sliced offset len inside t)

-- NAMES OF COLUMNS

pub length-names : (cs : List Col) → length (names_of (table_of cs)) ≡ length cs
length-names cs = length-map (table_of cs) (λ (c : TableColumn). c.name) ∙ length-map cs plain_column

pub name-at : (cs : List Col) (i : ℕ) (c : Col) → i < length cs → c ≡ get_or cs i c → c.name ≡ get_or (names_of (table_of cs)) i []
name-at cs i c low is =
    let long = length-map cs plain_column in
    ap (λ (k : Col). k.name) is ∙ ap (λ (k : TableColumn). k.name) (sym (get_or-map plain_column cs i c (plain_column c) low)) ∙ sym (get_or-map (λ (k : TableColumn). k.name) (table_of cs) i (plain_column c) [] (omega (arith, long)))
