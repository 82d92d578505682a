-- The tables of the rows that there are.
use Rattle.std.proofs.Common.{◌≡◌, ℕ, zero, suc, ◌+◌, ◌<◌, ◌≤◌, List, [], ◌∷◌, ◌++◌, length, get_or, map, take, Option, Some, None, Ok, Err, refl, ap, arith, sym, ◌∙◌, subst}
use Rattle.std.specs.Prelude.{All, AllPairs, IfOk, Result}
use Rattle.std.specs.List.{enumerate_from}
use Rattle.std.specs.Map.{values_of}
use Rattle.std.specs.Vec.{vec_len}
use Rattle.std.proofs.lemmas.List.{append-nil, get_or-map, length-map, length-take, map-append, take_more}
use Rattle.std.proofs.lemmas.List.Elements.{All-map, All-weaker}
use Rattle.std.proofs.lemmas.List.FromFn.{get_or-enumerate_from, length-enumerate_from}
use Rattle.tb_value.specs.Promise.Datum.{Datum, null}
use Rattle.tb_value.specs.Promise.Kind.{Kind, Part}
use Rattle.tb_value.specs.Promise.Kind as kind
use Rattle.tb_value.specs.Promise.Names.{Name}
use Rattle.tb_value.specs.Promise.Refusals.{first_cause}
use Rattle.tb_value.specs.Promise.Typed.{FitsFields, HasType}
use Rattle.tb_value.specs.See.{data_of, datum}
use Rattle.tb_value.specs.SeeKind.{kind_of, part}
use Rattle.tb_value.specs.declared.dtype.Field.{Field}
use Rattle.tb_value.specs.declared.error.PolarsError.{PolarsError}
use Rattle.tb_value.specs.declared.error.OutOfMemory.{OutOfMemory}
use Rattle.tb_value.proofs.Loops.{map-map}
use Rattle.tb_chunk.specs.Made.{IsMade}
use Rattle.tb_chunk.specs.Promise.Col.{Col, concatenation}
use Rattle.tb_chunk.specs.Promise.Made.{at_least_one}
use Rattle.tb_frame.specs.Promise.Join.{by_names}
use Rattle.tb_frame.specs.Promise.Refusal.{column_causes, join_refusal, name_causes, too_many_rows}
use Rattle.tb_frame.specs.Promise.Table.{IsTable, IsTyped, Table, TableColumn, height, names_of, plain_column, table_of}
use Rattle.tb_frame.proofs.Causes.{first_cause-one, no_cause}
use Rattle.tb_frame.proofs.Frames.{level_height}
use Rattle.tb_delta.specs.Inside.{AreRows, side_state, stored}
use Rattle.tb_delta.specs.Promise.Now.{column_now, kept_args, now, table_now, view_refusal}
use Rattle.tb_delta.specs.Promise.State.{Row, SideState, State, given}
use Rattle.tb_delta.specs.declared.side_rows.SideRows.{SideRows}
use Rattle.tb_delta.specs.declared.side_rows.StoredRow.{StoredRow}
use Rattle.tb_delta.proofs.Given.{numbered_more, table_back}
use Rattle.tb_delta.proofs.Placed.{fits_length}
use Rattle.tb_delta.proofs.Schemas.{names_now}

-- A ROW AT A PLACE

fits_at : (ps : List Part) (row : List Datum) (p : ℕ) (d : Part) → FitsFields ps row → p < length ps → HasType (get_or ps p d).1 (get_or row p null)
fits_at [] row p d f low = absurd (omega (arith, low))
fits_at (q ∷ ps) [] p d f low = absurd f
fits_at (q ∷ ps) (v ∷ vs) zero d f low = f.0
fits_at (q ∷ ps) (v ∷ vs) (suc p) d f low = fits_at ps vs p d f.1 (omega (arith, low))

-- what holds of the rows holds of what is stored
of_values : (P : List Datum → Type 0) (es : List (ℕ × StoredRow)) → All (λ (r : Row). P r.1) (map stored es) → All (λ (s : StoredRow). P (data_of s.values.items)) (values_of es)
of_values P es h = λ k d low.
    let here : k < length es = omega (arith, low, length-map es (λ (e : ℕ × StoredRow). e.1)) in
    let there : k < length (map stored es) = omega (arith, here, length-map es stored) in
    subst (λ (s : StoredRow). P (data_of s.values.items)) (sym (get_or-map (λ (e : ℕ × StoredRow). e.1) es k (0, d) d here))
    (subst (λ (r : Row). P r.1) (get_or-map stored es k (0, d) (stored (0, d)) here) (h k (stored (0, d)) there))

pub long_at : (rows : SideRows) (p : ℕ) → AreRows (side_state rows) → p < length rows.columns.items → All (λ (s : StoredRow). p < vec_len s.values) (values_of rows.rows.entries)
long_at rows p x low =
    let wide : p < length (side_state rows).columns = omega (arith, low, length-map rows.columns.items part) in
    All-weaker (λ (s : StoredRow). p < length (data_of s.values.items)) (λ (s : StoredRow). p < vec_len s.values)
    (λ s h. omega (arith, h, length-map s.values.items datum, s.values.ok.0)) (values_of rows.rows.entries)
    (of_values (λ row. p < length row) rows.rows.entries
    (All-weaker (λ (r : Row). FitsFields (side_state rows).columns r.1) (λ (r : Row). p < length r.1) (λ r f. omega (arith, wide, fits_length (side_state rows).columns r.1 f)) (side_state rows).rows x.typed))

pub typed_at : (rows : SideRows) (p : ℕ) (f : Field) → AreRows (side_state rows) → p < length rows.columns.items → f ≡ get_or rows.columns.items p f
    → All (λ (s : StoredRow). HasType (kind_of f.dtype) (get_or (data_of s.values.items) p null)) (values_of rows.rows.entries)
typed_at rows p f x low is =
    let cs : List Part = (side_state rows).columns in
    let wide : p < length cs = omega (arith, low, length-map rows.columns.items part) in
    let same : get_or cs p (part f) ≡ part f = get_or-map part rows.columns.items p f (part f) low ∙ ap part (sym is) in
    of_values (λ row. HasType (kind_of f.dtype) (get_or row p null)) rows.rows.entries
    (All-weaker (λ (r : Row). FitsFields cs r.1) (λ (r : Row). HasType (kind_of f.dtype) (get_or r.1 p null))
    (λ r h. subst (λ (q : Part). HasType q.1 (get_or r.1 p null)) same (fits_at cs r.1 p (part f) h wide)) (side_state rows).rows x.typed)

-- HOW MANY ROWS

rising : (xs : List Row) → AllPairs (λ (a b : Row). a.0 < b.0) xs → (i : ℕ) (d : Row) → i < length xs → i ≤ (get_or xs i d).0
rising xs asc zero d low = omega arith
rising xs asc (suc i) d low = omega (arith, rising xs asc i d (omega (arith, low)), asc i (suc i) d (omega arith) low)

pub few_rows : (s : SideState) → AreRows s → length s.rows ≤ s.ever
few_rows s x = at s.rows x.ascend x.below
  where
    at : (xs : List Row) → AllPairs (λ (a b : Row). a.0 < b.0) xs → All (λ (r : Row). r.0 < s.ever) xs → length xs ≤ s.ever
    at [] asc below = omega arith
    at (r ∷ xs) asc below = omega (arith, rising (r ∷ xs) asc (length xs) r (omega arith), below (length xs) r (omega arith))

-- A COLUMN

-- the column that is made of one list
pub of_list : (r : Result Col PolarsError) (n m : Name) (t u : Kind) (vs : List Datum) (cs : List (List Datum)) → n ≡ m → t ≡ u → cs ≡ vs ∷ [] → IsMade n t cs r
    → IfOk r (λ (c : Col). plain_column c ≡ record { name = m; kind = u; values = vs })
of_list (Ok c) n m t u vs cs name type one made =
    ap plain_column made.2
    ∙ (λ i. record { name = name i; kind = type i; values = concatenation (at_least_one (one i)) })
    ∙ ap (λ (l : List Datum). record { name = m; kind = u; values = l }) (append-nil vs)
of_list (Err e) n m t u vs cs name type one made = tt

-- what an answer is that only memory can be wanting for
pub through : {T : Type 0} (P Q : T → Type 0) (r : Result T PolarsError) (s : Result T OutOfMemory) → IfOk s (λ t. r ≡ Ok t) → IfOk r P → ((t : T) → P t → Q t) → IfOk s Q
through P Q r (Ok t) is h f = f t (subst (λ x. IfOk x P) is h)
through P Q r (Err e) is h f = tt

pub fields_are : (es : List (ℕ × StoredRow)) (p : ℕ) → map (λ (s : StoredRow). get_or (data_of s.values.items) p null) (values_of es) ≡ map (λ (r : Row). get_or r.1 p null) (map stored es)
fields_are es p = map-map (λ (s : StoredRow). get_or (data_of s.values.items) p null) (λ (e : ℕ × StoredRow). e.1) es ∙ sym (map-map (λ (r : Row). get_or r.1 p null) stored es)

-- THE TABLE

one_more : (R : List Row) (fs : List Field) (i : ℕ) (f : Field) (c : TableColumn) (t : Table) → i < length fs → f ≡ get_or fs i f
    → t ≡ map (column_now R) (enumerate_from 0 (take i (map part fs))) → c ≡ column_now R (i, part f)
    → t ++ c ∷ [] ≡ map (column_now R) (enumerate_from 0 (take (i + 1) (map part fs)))
one_more R fs i f c t low is so_far column =
    let cs : List Part = map part fs in
    let wide : i < length cs = omega (arith, low, length-map fs part) in
    let same : get_or cs i (part f) ≡ part f = get_or-map part fs i f (part f) low ∙ ap part (sym is) in
    let long : 0 + length (take i cs) ≡ i = omega (arith, wide, length-take i cs) in
    (λ k. so_far k ++ column k ∷ [])
    ∙ sym (ap (λ (l : List Part). map (column_now R) (enumerate_from 0 l)) (take_more cs i (part f) wide)
    ∙ ap (map (column_now R)) (numbered_more 0 (take i cs) (get_or cs i (part f)))
    ∙ map-append (column_now R) (enumerate_from 0 (take i cs)) ((0 + length (take i cs), get_or cs i (part f)) ∷ [])
    ∙ (λ k. map (column_now R) (enumerate_from 0 (take i cs)) ++ column_now R (long k, same k) ∷ []))

pub table_more : (R : List Row) (fs : List Field) (i : ℕ) (f : Field) (c : Col) (cs : List Col) → i < length fs → f ≡ get_or fs i f
    → table_of cs ≡ map (column_now R) (enumerate_from 0 (take i (map part fs))) → plain_column c ≡ column_now R (i, part f)
    → table_of (cs ++ c ∷ []) ≡ map (column_now R) (enumerate_from 0 (take (i + 1) (map part fs)))
table_more R fs i f c cs low is so_far column = map-append plain_column cs (c ∷ []) ∙ one_more R fs i f (plain_column c) (table_of cs) low is so_far column

-- each column of the table
each_column : (P : TableColumn → Type 0) (s : SideState) → ((k : ℕ) → k < length s.columns → P (column_now s.rows (k, get_or s.columns k ([], kind.null)))) → All P (table_now s)
each_column P s h = λ k d low.
    let cs : List Part = s.columns in
    let numbered : List (ℕ × Part) = enumerate_from 0 cs in
    let here : k < length numbered = omega (arith, low, length-map numbered (column_now s.rows)) in
    let there : k < length cs = omega (arith, here, length-enumerate_from 0 cs) in
    let same : 0 + k ≡ k = omega arith in
    let e : ℕ × Part = (0, ([], kind.null)) in
    subst P (sym (get_or-map (column_now s.rows) numbered k e d here
    ∙ ap (column_now s.rows) (get_or-enumerate_from 0 cs k e there)
    ∙ ap (λ n. column_now s.rows (n, get_or cs k ([], kind.null))) same)) (h k there)

pub is_table : (s : SideState) → AreRows s → IsTable (table_now s)
is_table s x = record {
  distinct = subst (λ (ns : List Name). AllPairs (λ (a b : Name). a ≡ b → ⊥) ns) (sym (names_now s.rows 0 s.columns)) x.distinct;
  one_height = level_height (length s.rows) (table_now s) (each_column (λ (c : TableColumn). length c.values ≡ length s.rows) s (λ k low. length-map s.rows (λ (r : Row). get_or r.1 k null)));
  typed = each_column IsTyped s (λ k low. All-map (HasType (get_or s.columns k ([], kind.null)).1) (λ (r : Row). get_or r.1 k null) s.rows
      (All-weaker (λ (r : Row). FitsFields s.columns r.1) (λ (r : Row). HasType (get_or s.columns k ([], kind.null)).1 (get_or r.1 k null)) (λ r f. fits_at s.columns r.1 k ([], kind.null) f low) s.rows x.typed));
}

-- THE JOIN

-- where the names and the types are in order, nothing but too many pairs refuses the join
pub rows_alone : (s : State) → view_refusal s ≡ None → join_refusal (now s) ≡ too_many_rows (now s)
rows_alone s h =
    let none = no_cause (name_causes (now s).left (now s).right (now s).left_on (now s).right_on ++ column_causes (now s)) h in
    (λ t. first_cause (none 0 None (omega arith) t ∷ none 1 None (omega arith) t ∷ None ∷ None ∷ None ∷ None ∷ None
    ∷ none 2 None (omega arith) t ∷ none 3 None (omega arith) t ∷ none 4 None (omega arith) t ∷ None ∷ None ∷ too_many_rows (now s) ∷ []))
    ∙ first_cause-one (too_many_rows (now s))

-- MADE ANEW

level_now : (s : SideState) → All (λ (c : TableColumn). length c.values ≡ height (table_now s)) (table_now s)
level_now s = level_height (length s.rows) (table_now s) (each_column (λ (c : TableColumn). length c.values ≡ length s.rows) s (λ k low. length-map s.rows (λ (r : Row). get_or r.1 k null)))

pub made_anew : (s : State) → now (given (table_now s.left) (table_now s.right) s.left.key s.right.key s.join_nulls) ≡ now s
made_anew s = λ t. by_names (table_back (table_now s.left) (level_now s.left) s.left.key t) (table_back (table_now s.right) (level_now s.right) s.right.key t) (s.left.key ∷ []) (s.right.key ∷ []) (kept_args s.join_nulls)
