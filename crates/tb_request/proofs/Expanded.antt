-- A column of format 2, and the same one in format 1.
use Rattle.std.proofs.Common.{◌≡◌, ◌∙◌, ◌+◌, ◌≤◌, Ordering, Less, Equal, Greater, ℕ, List, [], ◌∷◌, map, length, Bool, true, false, cond, Option, Some, None, option_map, codes, refl, sym, ap, arith}
use Rattle.std.specs.Prelude.{nat_le, unwrap_or}
use Rattle.std.specs.Cmp.Lexicographic.{slice_cmp}
use Rattle.std.specs.Ordering.{is_eq, nat_cmp, match_ordering}
use Rattle.std.proofs.lemmas.Map.Text.{is_eq-slice_cmp}
use Rattle.std.specs.Str.{bytes_eq}
use Rattle.std.proofs.lemmas.Bool.{le-leb}
use Rattle.std.proofs.lemmas.Map.Lookups.{exact_bytes}
use Rattle.std.proofs.lemmas.List.{append-nil}
use Rattle.std.proofs.lemmas.Slice.Eq.{bytes_eq-Decides}
use Rattle.serde_json.specs.Data.{array, boolean, Data, item, Items, member, Members, no_items, no_members, null, number, object, string}
use Rattle.serde_json.specs.Find.{as_str, get, get_member}
use Rattle.tb_value.specs.Promise.Datum.{Datum}
use Rattle.tb_value.specs.Promise.Kind.{Kind}
use Rattle.tb_value.specs.Promise.Names.{Name}
use Rattle.tb_value.specs.declared.limits.TheConstants.{MAX_ROWS}
use Rattle.tb_value.specs.declared.sorted.IsSorted.{IsSorted}
use Rattle.tb_value.specs.declared.sorted.IsSorted.TheVariants.{Not}
use Rattle.tb_chunk.specs.Promise.Col.{Col, concatenation}
use Rattle.tb_chunk.specs.Promise.Made.{at_least_one, fresh_column}
use Rattle.tb_chunk.specs.RunLayout.{expansion, total_of}
use Rattle.tb_chunk.proofs.RunLayout.{expansion_length}
use Rattle.tb_json.specs.Promise.Cells.{cell_in}
use Rattle.tb_json.specs.Promise.Kinds.{kind_in}
use Rattle.tb_json.specs.Promise.Lists.{◌>>=◌, are_among, check, each, is_among, list_from, list_of}
use Rattle.tb_json.proofs.LentValues.{list_from-items_of}
use Rattle.tb_request.specs.declared.runs.TheConstants.{MAX_RUN_VALUES}
use Rattle.tb_request.specs.declared.shape.Format.{Format}
use Rattle.tb_request.specs.declared.shape.Format.TheVariants.{Chunks, Runs}
use Rattle.tb_request.specs.Forms.{each_item, each_member, expand_column, expand_columns, expand_table, runs_at, without}
use Rattle.tb_request.specs.Promise.Columns.{chunks_in, columns_from, rows_in, rows_of_runs, run_in, values_of}
use Rattle.tb_request.specs.Promise.Members.{column_members, names_of}
use Rattle.tb_request.specs.Promise.Written.{column_of, flag_named, flag_of, text_or, in_chunks, in_runs, run_of, table_of, values_in, Written, WrittenRun, WrittenValues}
use Rattle.tb_request.proofs.RoomLeft.{rows_more}
use Rattle.tb_request.proofs.EachRun.{each_expansion, each_goes, each_more, each_total, parts}

-- ---- written columns

abbrev pub values_out : WrittenValues → WrittenValues
values_out (in_chunks cs) = in_chunks cs
values_out (in_runs rs) = in_chunks (expansion rs ∷ [])

abbrev pub written_out : Written → Written
written_out w = record w { values = values_out w.values }

run_chunks : (t : Kind) (rs : List WrittenRun) (o : Option (List (Datum × ℕ))) (chunks : List (List Datum)) → each (run_in t) rs ≡ o → total_of rs ≤ MAX_RUN_VALUES → option_map (λ vs. expansion vs ∷ []) o ≡ Some chunks → chunks_in t (in_chunks (expansion rs ∷ [])) ≡ Some chunks
run_chunks t rs None chunks is few e = absurd (cc)
run_chunks t rs (Some vs) chunks is few e =
    let all : each (each (cell_in t)) (expansion rs ∷ []) ≡ Some (expansion vs ∷ []) = each_more (each (cell_in t)) (expansion rs) [] (expansion vs) [] (each_expansion t rs vs is) refl in
    let short : length (concatenation (expansion vs ∷ [])) ≤ MAX_ROWS = omega (arith, few, each_total t rs vs is, expansion_length vs, ap length (append-nil (expansion vs))) in
    ap (λ o. o >>= λ chunks. check (nat_le (length (concatenation chunks)) MAX_ROWS) >>= λ short. Some (at_least_one chunks)) all
    ∙ ap (λ b. check b >>= λ short. Some (at_least_one (expansion vs ∷ []))) (le-leb _ _ short)
    ∙ e

chunks_out : (t : Kind) (vs : WrittenValues) (chunks : List (List Datum)) → rows_of_runs vs ≤ MAX_RUN_VALUES → chunks_in t vs ≡ Some chunks → chunks_in t (values_out vs) ≡ Some chunks
chunks_out t (in_chunks cs) chunks few e = e
chunks_out t (in_runs rs) chunks few e = run_chunks t rs (each (run_in t) rs) chunks refl few e

column_made : (w : Written) (o o' : Option (List (List Datum))) (c : Col) → ((chunks : List (List Datum)) → o ≡ Some chunks → o' ≡ Some chunks) → option_map (λ chunks. fresh_column w.name w.kind chunks w.flag) o ≡ Some c → option_map (λ chunks. fresh_column w.name w.kind chunks w.flag) o' ≡ Some c
column_made w None o' c h e = absurd (cc)
column_made w (Some chunks) o' c h e = ap (option_map (λ cs. fresh_column w.name w.kind cs w.flag)) (h chunks refl) ∙ e

-- the same column stands for both
pub values_of_out : (w : Written) (c : Col) → rows_of_runs w.values ≤ MAX_RUN_VALUES → values_of w ≡ Some c → values_of (written_out w) ≡ Some c
unfolding values_of
values_of_out w c few e = column_made w (chunks_in w.kind w.values) (chunks_in w.kind (values_out w.values)) c (λ chunks. chunks_out w.kind w.values chunks few) e

pub columns_out : (ws : List Written) (cs : List Col) → rows_in ws ≤ MAX_RUN_VALUES → columns_from ws ≡ Some cs → columns_from (map written_out ws) ≡ Some cs
columns_out [] cs few e = e
columns_out (w ∷ ws) cs few e =
    let s = parts (values_of w) (columns_from ws) cs e in
    let sum = rows_more w ws in
    each_more values_of (written_out w) (map written_out ws) s.0 s.1 (values_of_out w s.0 (omega (arith, few, sum)) s.2) (columns_out ws s.1 (omega (arith, few, sum)) s.3)
    ∙ ap Some (sym s.4)

no_rows : (vs : WrittenValues) → rows_of_runs (values_out vs) ≡ 0
no_rows (in_chunks cs) = refl
no_rows (in_runs rs) = refl

pub rows_out : (ws : List Written) → rows_in (map written_out ws) ≡ 0
rows_out [] = refl
rows_out (w ∷ ws) = rows_more (written_out w) (map written_out ws) ∙ (λ i. no_rows w.values i + rows_out ws i)

-- ---- members

-- an object has a member that f made of one
at_member : (f : List ℕ → Data → Data) (name k : List ℕ) (d : Data) (rest rest' : Option Data) (o : Ordering) → slice_cmp nat_cmp name k ≡ o → rest' ≡ option_map (f name) rest → match_ordering o rest' (Some (f k d)) rest' ≡ option_map (f name) (match_ordering o rest (Some d) rest)
at_member f name k d rest rest' Less is e = e
at_member f name k d rest rest' Equal is e = ap (λ l. Some (f l d)) (sym (exact_bytes name k is))
at_member f name k d rest rest' Greater is e = e

pub member_out : (f : List ℕ → Data → Data) (name : List ℕ) (ms : Members) → get_member name (each_member f ms) ≡ option_map (f name) (get_member name ms)
member_out f name no_members = refl
member_out f name (member k d ms) = at_member f name k d (get_member name ms) (get_member name (each_member f ms)) (slice_cmp nat_cmp name k) refl (member_out f name ms)

pub names_out : (f : List ℕ → Data → Data) (names : List (List ℕ)) (ms : Members) → are_among names (each_member f ms) ≡ are_among names ms
names_out f names no_members = refl
names_out f names (member k d ms) = ap (λ b. cond (is_among k names) b false) (names_out f names ms)

is_other : (o : Ordering) (rest one : Option Data) → is_eq o ≡ false → match_ordering o rest one rest ≡ rest
is_other Less rest one e = refl
is_other Equal rest one e = cc
is_other Greater rest one e = refl

-- a member stays where another is taken out
stays : (name out k : List ℕ) (d : Data) (ms : Members) (b : Bool) → bytes_eq name out ≡ false → bytes_eq k out ≡ b → get_member name (without out ms) ≡ get_member name ms → get_member name (cond b (without out ms) (member k d (without out ms))) ≡ get_member name (member k d ms)
stays name out k d ms true other is e =
    let same : k ≡ out = (bytes_eq-Decides k out).0 is in
    e ∙ sym (is_other (slice_cmp nat_cmp name k) (get_member name ms) (Some d) (is_eq-slice_cmp name k ∙ ap (bytes_eq name) same ∙ other))
stays name out k d ms false other is e = ap (λ rest. match_ordering (slice_cmp nat_cmp name k) rest (Some d) rest) e

get_without : (name out : List ℕ) (ms : Members) → bytes_eq name out ≡ false → get_member name (without out ms) ≡ get_member name ms
get_without name out no_members other = refl
get_without name out (member k d ms) other = stays name out k d ms (bytes_eq k out) other refl (get_without name out ms other)

-- ---- the names of a column's members

among_cond : (names : List Name) (b : Bool) (ms ns : Members) → are_among names (cond b ms ns) ≡ cond b (are_among names ms) (are_among names ns)
among_cond names true ms ns = refl
among_cond names false ms ns = refl

-- by whether a name is `chunks`, `name`, `runs`, `sorted` or `type`, and whether the names after it are known
name_known : (c n r s t : Bool) (others others' : Bool) → (others ≡ true → others' ≡ true) → cond (cond n true (cond r true (cond s true (cond t true false)))) others false ≡ true → cond r others' (cond (cond c true (cond n true (cond s true (cond t true false)))) others' false) ≡ true
name_known c n true s t others others' h e = h (known_others n s t others e) where
  known_others : (n s t others : Bool) → cond (cond n true true) others false ≡ true → others ≡ true
  known_others true s t others e = e
  known_others false s t others e = e
name_known true true false s t others others' h e = h e
name_known true false false true t others others' h e = h e
name_known true false false false true others others' h e = h e
name_known true false false false false others others' h e = cc
name_known false true false s t others others' h e = h e
name_known false false false true t others others' h e = h e
name_known false false false false true others others' h e = h e
name_known false false false false false others others' h e = cc

abbrev column_names : Format → List Name
column_names f = names_of (column_members f)

known_without : (ms : Members) → are_among (column_names Runs) ms ≡ true → are_among (column_names Chunks) (without (codes "runs") ms) ≡ true
known_without no_members e = refl
known_without (member k d ms) e =
    among_cond (column_names Chunks) (bytes_eq k (codes "runs")) (without (codes "runs") ms) (member k d (without (codes "runs") ms))
    ∙ name_known (bytes_eq k (codes "chunks")) (bytes_eq k (codes "name")) (bytes_eq k (codes "runs")) (bytes_eq k (codes "sorted")) (bytes_eq k (codes "type")) (are_among (column_names Runs) ms) (are_among (column_names Chunks) (without (codes "runs") ms)) (known_without ms) e

-- ---- a column

-- the column that its parts make
abbrev column_with : Bool → Option Name → Option IsSorted → Option Kind → (Kind → Option WrittenValues) → Option Written
column_with known name flag kind values = do
  k ← check known
  n ← name
  f ← flag
  t ← kind
  vs ← values t
  Some (record { name = n; kind = t; values = vs; flag = f })

with_values : (n : Name) (f : IsSorted) (t : Kind) (o o' : Option WrittenValues) (w : Written) → ((vs : WrittenValues) → o ≡ Some vs → o' ≡ Some (values_out vs)) → (o >>= λ vs. Some (record { name = n; kind = t; values = vs; flag = f })) ≡ Some w → (o' >>= λ vs. Some (record { name = n; kind = t; values = vs; flag = f })) ≡ Some (written_out w)
with_values n f t None o' w h e = absurd (cc)
with_values n f t (Some vs) o' w h e =
    ap (λ o. o >>= λ vs. Some (record { name = n; kind = t; values = vs; flag = f })) (h vs refl)
    ∙ ap (λ (v : Written). Some (written_out v)) (same_column (record { name = n; kind = t; values = vs; flag = f }) w e)
  where
    same_column : (v w : Written) → Some v ≡ Some w → v ≡ w
    same_column v w e = cc

column_goes : (known known' : Bool) (name : Option Name) (flag : Option IsSorted) (kind : Option Kind) (values values' : Kind → Option WrittenValues) (w : Written) → (known ≡ true → known' ≡ true) → ((t : Kind) (vs : WrittenValues) → kind ≡ Some t → values t ≡ Some vs → values' t ≡ Some (values_out vs)) → column_with known name flag kind values ≡ Some w → column_with known' name flag kind values' ≡ Some (written_out w)
column_goes false known' name flag kind values values' w k h e = absurd (cc)
column_goes true known' None flag kind values values' w k h e = absurd (cc)
column_goes true known' (Some n) None kind values values' w k h e = absurd (cc)
column_goes true known' (Some n) (Some f) None values values' w k h e = absurd (cc)
column_goes true known' (Some n) (Some f) (Some t) values values' w k h e =
    ap (λ b. column_with b (Some n) (Some f) (Some t) values') (k refl)
    ∙ with_values n f t (values t) (values' t) w (λ vs. h t vs refl) e

runs_written : (o : Option (List WrittenRun)) (vs : WrittenValues) → option_map in_runs o ≡ Some vs → vs ≡ in_runs (unwrap_or o [])
runs_written None vs e = absurd (cc)
runs_written (Some rs) vs e = cc

values_goes : (ms : Members) (t : Kind) (vs : WrittenValues) → (get (codes "type") (object ms) >>= kind_in) ≡ Some t → values_in Runs t (object ms) ≡ Some vs → values_in Chunks t (expand_column (object ms)) ≡ Some (values_out vs)
values_goes ms t vs is e =
    ap (λ ds. Some (in_chunks (ds ∷ []))) (list_from-items_of (expansion (runs_at (object ms))))
    ∙ ap (λ o. Some (in_chunks (expansion (unwrap_or (o >>= λ u. get (codes "runs") (object ms) >>= list_of (run_of u)) []) ∷ []))) is
    ∙ ap (λ v. Some (values_out v)) (sym (runs_written (get (codes "runs") (object ms) >>= list_of (run_of t)) vs e))

pub column_out : (c : Data) (w : Written) → column_of Runs c ≡ Some w → column_of Chunks (expand_column c) ≡ Some (written_out w)
unfolding column_of
column_out null w e = absurd (cc)
column_out (boolean b) w e = absurd (cc)
column_out (number n) w e = absurd (cc)
column_out (string s) w e = absurd (cc)
column_out (array ds) w e = absurd (cc)
column_out (object ms) w e =
    (λ i. column_with (are_among (column_names Chunks) (without (codes "runs") ms))
    (get_without (codes "name") (codes "runs") ms refl i >>= as_str)
    (text_or Not flag_named (get_without (codes "sorted") (codes "runs") ms refl i))
    (get_without (codes "type") (codes "runs") ms refl i >>= kind_in)
    (λ t. values_in Chunks t (expand_column (object ms))))
    ∙ column_goes (are_among (column_names Runs) ms) (are_among (column_names Chunks) (without (codes "runs") ms))
    (get (codes "name") (object ms) >>= as_str) (flag_of (object ms)) (get (codes "type") (object ms) >>= kind_in)
    (λ t. values_in Runs t (object ms)) (λ t. values_in Chunks t (expand_column (object ms))) w
    (known_without ms) (values_goes ms) e

-- ---- a table

items_out : (ds : Items) → list_from (each_item expand_column ds) ≡ map expand_column (list_from ds)
items_out no_items = refl
items_out (item d ds) = ap (λ es. expand_column d ∷ es) (items_out ds)

list_out : (d : Data) (ws : List Written) → list_of (column_of Runs) d ≡ Some ws → list_of (column_of Chunks) (expand_columns d) ≡ Some (map written_out ws)
list_out null ws e = absurd (cc)
list_out (boolean b) ws e = absurd (cc)
list_out (number n) ws e = absurd (cc)
list_out (string s) ws e = absurd (cc)
list_out (array ds) ws e = ap (each (column_of Chunks)) (items_out ds) ∙ each_goes expand_column written_out (column_of Runs) (column_of Chunks) column_out (list_from ds) ws e
list_out (object ms) ws e = absurd (cc)

abbrev table_with : Format → Bool → Option Data → Option (List Written)
table_with f known columns = check known >>= λ k. columns >>= list_of (column_of f)

table_goes : (known : Bool) (columns : Option Data) (ws : List Written) → table_with Runs known columns ≡ Some ws → table_with Chunks known (option_map expand_columns columns) ≡ Some (map written_out ws)
table_goes false columns ws e = absurd (cc)
table_goes true None ws e = absurd (cc)
table_goes true (Some d) ws e = list_out d ws e

pub table_out : (d : Data) (ws : List Written) → table_of Runs d ≡ Some ws → table_of Chunks (expand_table d) ≡ Some (map written_out ws)
unfolding table_of
table_out null ws e = absurd (cc)
table_out (boolean b) ws e = absurd (cc)
table_out (number n) ws e = absurd (cc)
table_out (string s) ws e = absurd (cc)
table_out (array ds) ws e = absurd (cc)
table_out (object ms) ws e =
    (λ i. table_with Chunks (names_out (λ _ c. expand_columns c) (codes "columns" ∷ []) ms i) (member_out (λ _ c. expand_columns c) (codes "columns") ms i))
    ∙ table_goes (are_among (codes "columns" ∷ []) ms) (get_member (codes "columns") ms) ws e
