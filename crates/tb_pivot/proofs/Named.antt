-- Columns of given names, and causes that are looked at in parts.
use Rattle.std.proofs.Common.{◌≡◌, ◌∙◌, ◌+◌, ◌<◌, ℕ, Bool, true, false, cond, not, List, [], ◌∷◌, ◌++◌, length, map, get_or, take, Option, Some, None, refl, sym, ap, subst}
use Rattle.std.specs.Prelude.{◌⊎◌, filter}
use Rattle.std.specs.Borrow.{Bor}
use Rattle.std.specs.List.{All, find}
use Rattle.std.specs.Option.{option_copied}
use Rattle.std.proofs.lemmas.List.{map-append, take_more}
use Rattle.std.proofs.lemmas.List.Elements.{All-nil, All-cons, All-head, All-tail, filter-append}
use Rattle.tb_value.specs.Promise.Names.{Name}
use Rattle.tb_value.specs.Promise.Refusals.{first_cause}
use Rattle.tb_value.specs.declared.error.InvalidCause.TheVariants.{AggType}
use Rattle.tb_value.specs.declared.error.PolarsError.{PolarsError}
use Rattle.tb_value.specs.declared.error.PolarsError.TheVariants.{InvalidOperation, OutOfMemory}
use Rattle.tb_chunk.specs.Promise.Col.{Col, values}
use Rattle.tb_chunk.specs.Lent.{lent_columns}
use Rattle.tb_frame.specs.Promise.Frame.{selected_columns}
use Rattle.tb_frame.specs.Promise.Table.{IsTable, Table, TableColumn, height, names_of, plain_column, table_of}
use Rattle.tb_frame.proofs.Causes.{find_none, first_cause-append, map_none, selected_hold}
use Rattle.tb_pivot.specs.Lent.{lent_request, name_causes}
use Rattle.tb_pivot.specs.Lookup.{AreAsHigh, AreFound, chosen_of}
use Rattle.tb_pivot.specs.Made.{takes}
use Rattle.tb_pivot.specs.Promise.Refusal.{agg_cause, column_causes, has_no_kind, pivot_refusal, value_causes}
use Rattle.tb_pivot.specs.Promise.Request.{Request, Way, chosen, given_or_rest, index_names, value_names}
use Rattle.tb_label.specs.Promise.Label.{separator_or}
use Rattle.tb_frame.specs.Promise.Join.{columns_named}
use Rattle.tb_pivot.specs.declared.lookup.WideColumns.{WideColumns}
use Rattle.tb_pivot.proofs.Causes.{columns_found, goes_on, not_taken, onward, stops}

-- one column more of which the name may be kept
module _ (p : Name → Bool) (cs : List Col) (i : ℕ) (x : Col) (low : i < length cs) (is : x ≡ get_or cs i x) where
  next_name : names_of (table_of (take (i + 1) cs)) ≡ names_of (table_of (take i cs)) ++ x.name ∷ []
  next_name =
      ap (λ (l : List Col). names_of (table_of l)) (take_more cs i x low)
      ∙ ap names_of (map-append plain_column (take i cs) (get_or cs i x ∷ []))
      ∙ map-append (λ (c : TableColumn). c.name) (table_of (take i cs)) (plain_column (get_or cs i x) ∷ [])
      ∙ ap (λ (c : Col). names_of (table_of (take i cs)) ++ c.name ∷ []) (sym is)

  pub kept_names : (b : Bool) → p x.name ≡ b → filter p (names_of (table_of (take (i + 1) cs))) ≡ filter p (names_of (table_of (take i cs))) ++ cond b (x.name ∷ []) []
  kept_names b e =
      ap (filter p) next_name ∙ filter-append p (names_of (table_of (take i cs))) (x.name ∷ [])
      ∙ ap (λ (c : Bool). filter p (names_of (table_of (take i cs))) ++ cond c (x.name ∷ []) []) e

un_mapped : {X Y : Type 0} (P : Y → Type 0) (f : X → Y) (xs : List X) → All P (map f xs) → All (λ x. P (f x)) xs
un_mapped P f [] all = All-nil (λ x. P (f x))
un_mapped P f (x ∷ xs) all = All-cons (λ x. P (f x)) x xs (All-head P (f x) (map f xs) all) (un_mapped P f xs (All-tail P (f x) (map f xs) all))

-- what holds of the columns as a table holds of them as they are lent
lent_each : (P : TableColumn → Type 0) (rs : List (Bor Col)) → All P (table_of (lent_columns rs)) → All (λ (c : Bor Col). P (plain_column c.now)) rs
lent_each P rs all = un_mapped (λ (c : Col). P (plain_column c)) (λ (c : Bor Col). c.now) rs (un_mapped P plain_column (lent_columns rs) all)

as_high : (cs : List Col) (names : List Name) (rs : List (Bor Col)) → IsTable (table_of cs) → lent_columns rs ≡ selected_columns names cs → All (λ (c : Bor Col). length (values c.now) ≡ height (table_of cs)) rs
as_high cs names rs table found =
    let P : TableColumn → Type 0 = λ c. length c.values ≡ height (table_of cs) in
    lent_each P rs (subst (λ (t : Table). All P t) (sym (columns_found cs cs names rs refl found)) (selected_hold P (table_of cs) table.one_height names))

-- columns of a table have as many rows as the table
pub are_as_high : (cs : List Col) (on index vs : List Name) (f : WideColumns) → IsTable (table_of cs) → AreFound cs on index vs f → AreAsHigh (height (table_of cs)) f
are_as_high cs on index vs f table found = record {
  on = as_high cs on f.on.items table found.on;
  index = as_high cs index f.index.items table found.index;
  values = as_high cs vs f.values.items table found.values;
}

is_true : (b c : Bool) → not b ≡ c → c ≡ false → b ≡ true
is_true true c e h = refl
is_true false c e h = absurd (let k : true ≡ false = e ∙ h in cc)

-- where no type is refused, each is taken
pub all_taken : (way : Way) (rs : List (Bor Col)) → agg_cause way (table_of (lent_columns rs)) ≡ None → All (λ (c : Bor Col). takes way c.now.kind ≡ true) rs
all_taken way rs none =
    let vs : Table = table_of (lent_columns rs) in
    let kinds : All (λ (c : Bor Col). has_no_kind way (plain_column c.now) ≡ false) rs = lent_each (λ (c : TableColumn). has_no_kind way c ≡ false) rs (find_none (has_no_kind way) vs (map_none (λ (c : TableColumn). InvalidOperation (AggType c.name)) (find (has_no_kind way) vs) none)) in
    λ k d low. let c : Bor Col = get_or rs k d in is_true (takes way c.now.kind) (has_no_kind way (plain_column c.now)) (not_taken way (plain_column c.now)) (kinds k d low)

-- a cause of the first part is the cause of the whole
early : (xs ys : List (Option PolarsError)) (e : PolarsError) → (e ≡ OutOfMemory) ⊎ (first_cause xs ≡ Some e) → (e ≡ OutOfMemory) ⊎ (first_cause (xs ++ ys) ≡ Some e)
early xs ys e h = onward e (first_cause (first_cause xs ∷ ys)) (first_cause (xs ++ ys)) (first_cause-append xs ys) (stops e (first_cause xs) ys h)

-- where there is none, the second part decides
later : (xs ys : List (Option PolarsError)) → first_cause xs ≡ None → first_cause (xs ++ ys) ≡ first_cause ys
later xs ys none = first_cause-append xs ys ∙ goes_on (first_cause xs) ys none

-- a cause of how many names there are is the request's
pub names_stop : (q : Request) (e : PolarsError) → (e ≡ OutOfMemory) ⊎ (first_cause (name_causes q.table q.on q.index q.values) ≡ Some e) → (e ≡ OutOfMemory) ⊎ (pivot_refusal q ≡ Some e)
names_stop q e h = early (name_causes q.table q.on q.index q.values) (column_causes q.table q.on (index_names q) (value_names q) q.way ++ value_causes (chosen q)) e h

-- where there is none, what is said of columns comes next, and then what is said of values
module _ (q : Request) (enough : first_cause (name_causes q.table q.on q.index q.values) ≡ None) (is vs : List Name) (index : is ≡ index_names q) (values : vs ≡ value_names q) where
  columns_decide : pivot_refusal q ≡ first_cause (column_causes q.table q.on is vs q.way ++ value_causes (chosen q))
  columns_decide =
      later (name_causes q.table q.on q.index q.values) (column_causes q.table q.on (index_names q) (value_names q) q.way ++ value_causes (chosen q)) enough
      ∙ ap (λ (ns : List Name). first_cause (column_causes q.table q.on ns (value_names q) q.way ++ value_causes (chosen q))) (sym index)
      ∙ ap (λ (ns : List Name). first_cause (column_causes q.table q.on is ns q.way ++ value_causes (chosen q))) (sym values)

  pub columns_stop : (e : PolarsError) → (e ≡ OutOfMemory) ⊎ (first_cause (column_causes q.table q.on is vs q.way) ≡ Some e) → (e ≡ OutOfMemory) ⊎ (pivot_refusal q ≡ Some e)
  columns_stop e h =
      onward e (first_cause (column_causes q.table q.on is vs q.way ++ value_causes (chosen q))) (pivot_refusal q) columns_decide
      (early (column_causes q.table q.on is vs q.way) (value_causes (chosen q)) e h)

  pub values_decide : first_cause (column_causes q.table q.on is vs q.way) ≡ None → pivot_refusal q ≡ first_cause (value_causes (chosen q))
  values_decide none = columns_decide ∙ later (column_causes q.table q.on is vs q.way) (value_causes (chosen q)) none

-- the columns that were found are those that the request chooses
pub chosen_is : (cs : List Col) (on : List Name) (index values : Option (List Name)) (sorts : Bool) (way : Way) (separator : Option (Bor Name)) (is vs : List Name)
    → is ≡ given_or_rest (table_of cs) on index values → vs ≡ given_or_rest (table_of cs) on values index
    → (f : WideColumns) → AreFound cs on is vs f → (h : ℕ) → h ≡ height (table_of cs) → (s : Name) → s ≡ separator_or (option_copied separator)
    → chosen_of h f sorts way s ≡ chosen (lent_request cs on index values sorts way separator)
chosen_is cs on index values sorts way separator is vs i v f found h high s between =
    let keys : table_of (lent_columns f.on.items) ≡ columns_named (table_of cs) on = columns_found cs cs on f.on.items refl found.on in
    let rows : table_of (lent_columns f.index.items) ≡ columns_named (table_of cs) (given_or_rest (table_of cs) on index values) = columns_found cs cs is f.index.items refl found.index ∙ ap (columns_named (table_of cs)) i in
    let others : table_of (lent_columns f.values.items) ≡ columns_named (table_of cs) (given_or_rest (table_of cs) on values index) = columns_found cs cs vs f.values.items refl found.values ∙ ap (columns_named (table_of cs)) v in
    λ t. record { height = high t; on = keys t; index = rows t; values = others t; sorts = sorts; way = way; separator = between t }
