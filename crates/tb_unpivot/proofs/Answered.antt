-- What is asked of the columns that are found, and what their table is refused for.
use Rattle.std.proofs.Common.{arith, ◌≡◌, ◌∙◌, ◌≤◌, ◌<◌, ◌*◌, ℕ, List, [], ◌∷◌, length, map, None, Ok, ap, sym, refl, subst}
use Rattle.std.specs.Borrow.{Bor}
use Rattle.std.specs.List.{All}
use Rattle.std.proofs.lemmas.List.{length-map, nil_from_length}
use Rattle.std.proofs.lemmas.List.Elements.{All-nil, All-cons, All-head, All-tail, All-map}
use Rattle.tb_value.specs.Promise.Kind.{Kind}
use Rattle.tb_value.specs.Promise.Kind as kind
use Rattle.tb_value.specs.Promise.Names.{Name}
use Rattle.tb_value.specs.Promise.Refusals.{first_cause}
use Rattle.tb_value.specs.SeeKind.{kind_of}
use Rattle.tb_value.specs.declared.limits.TheConstants.{MAX_ROWS}
use Rattle.tb_chunk.specs.Promise.Col.{Col, values}
use Rattle.tb_chunk.specs.Lent.{lent_columns}
use Rattle.tb_frame.specs.Promise.Frame.{selected_columns}
use Rattle.tb_frame.specs.Promise.Refusal.{repeated_among}
use Rattle.tb_frame.specs.Promise.Table.{TableColumn, Table, IsTable, IsTyped, height, names_of, plain_column, table_of}
use Rattle.tb_frame.proofs.Causes.{selected_hold}
use Rattle.tb_frame.proofs.Selected.{selected-table}
use Rattle.tb_supertype.specs.Columns.{CastsTo}
use Rattle.tb_unpivot.specs.Asked.{IsAsked}
use Rattle.tb_unpivot.specs.Blocks.{AreLevel, long_names, parts_in, parts_of}
use Rattle.tb_unpivot.specs.Promise.Unpivot.{Request, asked_causes, common_kind, kind_or_null, no_supertype, on_columns, on_names, table_causes, too_many_values, unpivot_refusal, unpivot_table, value_kind}
use Rattle.tb_frame.specs.Promise.Join.{columns_named}
use Rattle.tb_unpivot.specs.declared.lookup.LongColumns.{LongColumns}
use Rattle.tb_unpivot.proofs.Causes.{first_of_one, goes_on}
use Rattle.tb_unpivot.proofs.CommonKinds.{casts_all}
use Rattle.tb_unpivot.proofs.Lists.{selected-none}
use Rattle.tb_unpivot.proofs.LongTables.{names-long}

un_mapped : {X Y : Type 0} (P : Y → Type 0) (f : X → Y) (xs : List X) → All P (map f xs) → All (λ x. P (f x)) xs
un_mapped P f [] all = All-nil (λ x. P (f x))
un_mapped P f (x ∷ xs) all = All-cons (λ x. P (f x)) x xs (All-head P (f x) (map f xs) all) (un_mapped P f xs (All-tail P (f x) (map f xs) all))

-- what holds of each column of the table holds of those that are selected
selected_each : (P : TableColumn → Type 0) (cs : List Col) (names : List Name) → All P (table_of cs) → All (λ (c : Col). P (plain_column c)) (selected_columns names cs)
selected_each P cs names all =
    un_mapped P plain_column (selected_columns names cs) (subst (λ (t : Table). All P t) (sym (selected-table names cs)) (selected_hold P (table_of cs) all names))

selected_level : (cs : List Col) (names : List Name) → IsTable (table_of cs) → All (λ (c : Col). length (values c) ≡ height (table_of cs)) (selected_columns names cs)
selected_level cs names table = selected_each (λ (c : TableColumn). length c.values ≡ height (table_of cs)) cs names table.one_height

selected_typed : (cs : List Col) (names : List Name) → IsTable (table_of cs) → (t : Kind) → common_kind kind.null (table_of (selected_columns names cs)) ≡ Ok t → All (CastsTo t) (selected_columns names cs)
selected_typed cs names table t e =
    casts_all kind.null t (selected_columns names cs) e (All-map IsTyped plain_column (selected_columns names cs) (selected_each IsTyped cs names table.typed))

-- WHAT IS FOUND

-- the causes of the columns that are found are those of the columns that are named
pub columns_causes : (cs : List Col) (on : List Name) (rs : List (Bor Col)) (rows : ℕ) → rows ≡ height (table_of cs) → lent_columns rs ≡ selected_columns on cs
    → first_cause (no_supertype (table_of (lent_columns rs)) ∷ too_many_values rows (length rs) ∷ []) ≡ first_cause (no_supertype (table_of (selected_columns on cs)) ∷ too_many_values (height (table_of cs)) (length (table_of (selected_columns on cs))) ∷ [])
columns_causes cs on rs rows high found =
    let many : length rs ≡ length (table_of (selected_columns on cs)) = sym (length-map rs (λ (r : Bor Col). r.now)) ∙ ap length found ∙ sym (length-map (selected_columns on cs) plain_column) in
    λ t. first_cause (no_supertype (table_of (found t)) ∷ too_many_values (high t) (many t) ∷ [])

pub are_asked : (cs : List Col) (on index : List Name) (a : LongColumns) (rs : List (Bor Col)) (rows : ℕ) → rows ≡ height (table_of cs) → rs ≡ a.on.items
    → lent_columns a.on.items ≡ selected_columns on cs → lent_columns a.index.items ≡ selected_columns index cs → common_kind kind.null (table_of (lent_columns rs)) ≡ Ok (kind_of a.dtype)
    → rows * length rs ≤ MAX_ROWS → IsAsked cs on index a
are_asked cs on index a rs rows high same found there common few =
    let here : lent_columns rs ≡ selected_columns on cs = ap lent_columns same ∙ found in
    let many : length rs ≡ length (selected_columns on cs) = sym (length-map rs (λ (r : Bor Col). r.now)) ∙ ap length here in
    record {
      on = found;
      index = there;
      kind = sym (ap (λ (ds : List Col). common_kind kind.null (table_of ds)) here) ∙ common;
      few = subst (λ (n : ℕ). n * length (selected_columns on cs) ≤ MAX_ROWS) high (subst (λ (n : ℕ). rows * n ≤ MAX_ROWS) many few);
    }

-- in a table without columns nothing is looked at, and nothing is found
pub none_asked : (cs columns : List Col) (on index : List Name) → length cs ≡ 0 → first_cause (table_causes (table_of cs) (table_of columns) on index) ≡ None
none_asked cs columns on index e = ap (λ (ds : List Col). first_cause (table_causes (table_of ds) (table_of columns) on index)) (nil_from_length cs e)

pub nothing_asked : (cs : List Col) (on index : List Name) (a : LongColumns) → length cs ≡ 0 → a.on.items ≡ [] → a.index.items ≡ [] → kind_of a.dtype ≡ kind.null → IsAsked cs on index a
nothing_asked cs on index a e no_on no_index no_type =
    let empty : (names : List Name) → [] ≡ selected_columns names cs = λ names. sym (ap (selected_columns names) (nil_from_length cs e) ∙ selected-none names) in
    record {
      on = ap lent_columns no_on ∙ empty on;
      index = ap lent_columns no_index ∙ empty index;
      kind = ap (λ (ds : List Col). common_kind kind.null (table_of ds)) (sym (empty on)) ∙ ap Ok (sym no_type);
      few = subst (λ (n : ℕ). height (table_of cs) * n ≤ MAX_ROWS) (ap length (empty on)) (omega arith);
    }

pub some_asked : (cs columns : List Col) (on index : List Name) → 0 < length cs
    → first_cause (asked_causes (table_of cs) (table_of columns) on index) ≡ first_cause (table_causes (table_of cs) (table_of columns) on index)
some_asked [] columns on index h = absurd (omega arith)
some_asked (c ∷ cs) columns on index h = refl

-- THE ANSWER

abbrev pub asked_of : List Col → List Name → List Name → Name → Name → Request
asked_of cs on index variable value = record { table = table_of cs; on = on; index = index; variable = variable; value = value }

module _ (cs : List Col) (on index names : List Name) (variable value : Name) (is : names ≡ on_names (table_of cs) on index) where
  named_columns : table_of (selected_columns names cs) ≡ on_columns (asked_of cs on index variable value)
  named_columns = ap (λ (ns : List Name). table_of (selected_columns ns cs)) is ∙ selected-table (on_names (table_of cs) on index) cs

  pub asked_for : first_cause (table_causes (table_of cs) (table_of (selected_columns names cs)) names index) ≡ first_cause (table_causes (table_of cs) (on_columns (asked_of cs on index variable value)) (on_names (table_of cs) on index) index)
  asked_for = λ t. first_cause (table_causes (table_of cs) (named_columns t) (is t) index)

  -- what is found is what is asked for
  pub parts_found : (rows : ℕ) (a : LongColumns) → rows ≡ height (table_of cs) → IsAsked cs names index a → parts_in rows a variable value ≡ parts_of (asked_of cs on index variable value)
  parts_found rows a high asked =
      let columns : table_of (lent_columns a.on.items) ≡ on_columns (asked_of cs on index variable value) = ap table_of asked.on ∙ named_columns in
      let beside : table_of (lent_columns a.index.items) ≡ columns_named (table_of cs) index = ap table_of asked.index ∙ selected-table index cs in
      let typed : kind_of a.dtype ≡ value_kind (asked_of cs on index variable value) = sym (ap (λ (t : Table). kind_or_null (common_kind kind.null t)) (sym named_columns) ∙ ap kind_or_null asked.kind) in
      λ t. record { rows = high t; kind = typed t; on = columns t; index = beside t; variable = variable; value = value }

  -- where no cause stands before, a request is refused as the names of its long table are
  pub names_refusal : (a : LongColumns) (is : List (Bor Col)) → IsAsked cs names index a → is ≡ a.index.items
      → first_cause (table_causes (table_of cs) (table_of (selected_columns names cs)) names index) ≡ None
      → unpivot_refusal (asked_of cs on index variable value) ≡ repeated_among (long_names (table_of (lent_columns is)) variable value)
  names_refusal a is asked there none =
      let q : Request = asked_of cs on index variable value in
      let beside : table_of (lent_columns is) ≡ columns_named (table_of cs) index = ap (λ (rs : List (Bor Col)). table_of (lent_columns rs)) there ∙ ap table_of asked.index ∙ selected-table index cs in
      goes_on (first_cause (table_causes (table_of cs) (on_columns q) (on_names (table_of cs) on index) index)) (repeated_among (names_of (unpivot_table q)) ∷ []) (sym asked_for ∙ none)
      ∙ first_of_one (repeated_among (names_of (unpivot_table q)))
      ∙ ap repeated_among (names-long (value_kind q) (on_columns q) (columns_named (table_of cs) index) variable value)
      ∙ ap (λ (t : Table). repeated_among (long_names t variable value)) (sym beside)

  -- and where it isn't refused, the parts are level
  pub found_level : (rows : ℕ) (a : LongColumns) (is : List (Bor Col)) → rows ≡ height (table_of cs) → IsTable (table_of cs) → IsAsked cs names index a → is ≡ a.index.items
      → repeated_among (long_names (table_of (lent_columns is)) variable value) ≡ None → AreLevel rows a variable value
  found_level rows a is high table asked there distinct =
      let level : (found : List Name) (cs' : List Col) → cs' ≡ selected_columns found cs → All (λ (c : Col). length (values c) ≡ rows) cs' =
      λ found cs' e. subst (λ (n : ℕ). All (λ (c : Col). length (values c) ≡ n) cs') (sym high) (subst (λ (ds : List Col). All (λ (c : Col). length (values c) ≡ height (table_of cs)) ds) (sym e) (selected_level cs found table))
      in
      record {
        on = level names (lent_columns a.on.items) asked.on;
        index = level index (lent_columns a.index.items) asked.index;
        few = rw (high, asked.on) asked.few;
        typed = subst (λ (ds : List Col). All (CastsTo (kind_of a.dtype)) ds) (sym asked.on) (selected_typed cs names table (kind_of a.dtype) asked.kind);
        distinct = ap (λ (rs : List (Bor Col)). repeated_among (long_names (table_of (lent_columns rs)) variable value)) (sym there) ∙ distinct;
      }
