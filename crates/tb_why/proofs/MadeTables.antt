-- The tables that are made of JSON values, where no spot is found in these.
use Rattle.std.proofs.Common.{◌≡◌, ◌∙◌, ℕ, ◌+◌, ◌≤◌, List, [], ◌∷◌, length, map, Bool, true, false, ◌&&◌, Option, Some, None, codes, refl, sym, subst, ap, arith}
use Rattle.std.specs.Prelude.{◌==◌, is_none, is_some, option_and_then, option_map, sum_by, ⊤}
use Rattle.std.specs.List.{find, list_all}
use Rattle.std.proofs.lemmas.Bool.{leb-true}
use Rattle.std.proofs.lemmas.List.{length-map}
use Rattle.std.proofs.lemmas.List.Folds.{list_all-map}
use Rattle.std.proofs.lemmas.List.Sums.{sum_by-cons}
use Rattle.serde_json.specs.Data.{Data}
use Rattle.serde_json.specs.Find.{get}
use Rattle.tb_value.specs.Promise.Names.{Name}
use Rattle.tb_value.specs.Promise.Pairs.{row_numbers}
use Rattle.tb_value.specs.declared.limits.TheConstants.{MAX_ROWS}
use Rattle.tb_chunk.specs.Promise.Col.{Col, values}
use Rattle.tb_frame.specs.Promise.Frame.{are_level}
use Rattle.tb_frame.specs.Promise.Refusal.{repeats}
use Rattle.tb_frame.specs.Promise.Refusal as refusal
use Rattle.tb_frame.specs.Promise.Table as table
use Rattle.tb_frame.specs.Promise.Table.{TableColumn, plain_column}
use Rattle.tb_json.specs.Promise.Lists as lists
use Rattle.tb_json.specs.Promise.Lists.{check, has_only}
use Rattle.tb_request.specs.declared.request.Reason.{Reason}
use Rattle.tb_request.specs.declared.request.Reason.TheVariants as why
use Rattle.tb_request.specs.declared.shape.Format.{Format}
use Rattle.tb_request.specs.declared.shape.Format.TheVariants.{Chunks, Runs}
use Rattle.tb_request.specs.Promise.Columns.{columns_from, rows_in, rows_in_tables, rows_of_runs, values_of}
use Rattle.tb_request.specs.Promise.Flags.{flag_holds, flags_hold}
use Rattle.tb_request.specs.Promise.Reading.{are_distinct}
use Rattle.tb_request.specs.Promise.Members.{names_of, table_members}
use Rattle.tb_request.specs.Promise.Written.{column_of, table_of, Written}
use Rattle.tb_why.specs.declared.spot.Expected.TheVariants as expected
use Rattle.tb_why.specs.declared.spot.Step.TheVariants.{Index, Member}
use Rattle.tb_why.specs.Spots.{Spot, first_at, first_in_room, inside, spot_here, under}
use Rattle.tb_why.specs.Members.{members_spot}
use Rattle.tb_why.specs.Columns.{column_room_spot, columns_of, columns_spot, count_at, flag_spot, height, height_spot, name_at, run_room_spot, runs_at, table_room_spot, table_rows, table_spot, times_at, values_spot}
use Rattle.tb_why.proofs.Unfound.{in_room, inside_items, neither, not_under, one_more, so}
use Rattle.tb_why.proofs.EachRead.{Reads, each_read, items_read, next_reads, taken}
use Rattle.tb_why.proofs.WrittenColumns.{chunks_written, counts_written, is_written, runs_written}
use Rattle.tb_why.proofs.MadeColumns.{flag_is_held, is_made, values_made}

-- ---- tests of each column

abbrev pub Each : {B : Type 0} → (B → Type 0) → List B → Type 0
Each P [] = ⊤
Each P (y ∷ ys) = P y × Each P ys

any : {B : Type 0} (ys : List B) → Each (λ _. ⊤) ys
any [] = tt
any (y ∷ ys) = (tt, any ys)

both_hold : (a b : Bool) → a ≡ true → b ≡ true → a && b ≡ true
both_hold true b h k = k
both_hold false b h k = absurd (cc)

each_holds : {B C : Type 0} (f : Data → Option B) (next : B → Option C) (g : Data → Option Spot) (P : B → Type 0) (p : C → Bool) (i : ℕ) (ds : List Data) (ys : List B) (zs : List C)
    → ((d : Data) (y : B) (z : C) → P y → f d ≡ Some y → next y ≡ Some z → g d ≡ None → p z ≡ true)
    → Each P ys → Reads f ds ys → Reads next ys zs → first_at g i ds ≡ None → list_all p zs ≡ true
each_holds f next g P p i [] [] [] one all reads nexts h = refl
each_holds f next g P p i [] [] (z ∷ zs) one all reads nexts h = absurd nexts
each_holds f next g P p i [] (y ∷ ys) zs one all reads nexts h = absurd reads
each_holds f next g P p i (d ∷ ds) [] zs one all reads nexts h = absurd reads
each_holds f next g P p i (d ∷ ds) (y ∷ ys) [] one all reads nexts h = absurd nexts
each_holds f next g P p i (d ∷ ds) (y ∷ ys) (z ∷ zs) one all reads nexts h =
    let both : (under (Index i) (g d) ≡ None) × (first_at g (i + 1) ds ≡ None) = neither _ _ h in
    both_hold (p z) (list_all p zs) (one d y z all.0 reads.0 nexts.0 (not_under (Index i) (g d) both.0)) (each_holds f next g P p (i + 1) ds ys zs one all.1 reads.1 nexts.1 both.1)

-- ---- the values

columns_made : (f : Format) (ds : List Data) (ws : List Written) → Reads (column_of f) ds ws → columns_spot f why.Value ds ≡ None → is_some (columns_from ws) ≡ true
columns_made f ds ws reads h = next_reads (column_of f) values_of (values_spot f) 0 ds ws reads h (values_made f)

-- ---- the heights

first_height : (f : Format) (ds : List Data) (ws : List Written) (cs : List Col) → Reads (column_of f) ds ws → Reads values_of ws cs → height f ds ≡ table.height (table.table_of cs)
first_height f [] [] [] reads made = refl
first_height f [] [] (c ∷ cs) reads made = absurd made
first_height f [] (w ∷ ws) cs reads made = absurd reads
first_height f (d ∷ ds) [] cs reads made = absurd reads
first_height f (d ∷ ds) (w ∷ ws) [] reads made = absurd made
first_height f (d ∷ ds) (w ∷ ws) (c ∷ cs) reads made = (is_made f d w c reads.0 made.0).count

heights_are_level : (f : Format) (ds : List Data) (ws : List Written) (cs : List Col) → Reads (column_of f) ds ws → Reads values_of ws cs → columns_spot f why.Heights ds ≡ None → are_level (table.table_of cs) ≡ true
heights_are_level f ds ws cs reads made h =
    let n : ℕ = height f ds in
    let level : list_all (λ (c : Col). length (values c) == n) cs ≡ true = each_holds (column_of f) values_of (height_spot f n) (λ _. ⊤) (λ (c : Col). length (values c) == n) 0 ds ws cs
    (λ d w c _ is make none. ap (λ m. m == n) (sym (is_made f d w c is make).count) ∙ so _ (expected.Height n) none) (any ws) reads made h in
    subst (λ m. list_all (λ (c : TableColumn). length c.values == m) (table.table_of cs) ≡ true) (first_height f ds ws cs reads made)
    (list_all-map (λ (c : TableColumn). length c.values == n) plain_column cs ∙ level)

-- ---- the names

names_are : (f : Format) (ds : List Data) (ws : List Written) (cs : List Col) → Reads (column_of f) ds ws → Reads values_of ws cs → table.names_of (table.table_of cs) ≡ map name_at ds
names_are f [] [] [] reads made = refl
names_are f [] [] (c ∷ cs) reads made = absurd made
names_are f [] (w ∷ ws) cs reads made = absurd reads
names_are f (d ∷ ds) [] cs reads made = absurd reads
names_are f (d ∷ ds) (w ∷ ws) [] reads made = absurd made
names_are f (d ∷ ds) (w ∷ ws) (c ∷ cs) reads made =
    let name : c.name ≡ name_at d = (is_made f d w c reads.0 made.0).name ∙ sym (is_written f d w reads.0).name in
    (λ i. name i ∷ names_are f ds ws cs reads.1 made.1 i)

none_repeats : (o : Option ℕ) → option_and_then (λ (i : ℕ). under (Index i) (under (Member (codes "name")) (spot_here expected.OtherName))) o ≡ None → o ≡ None
none_repeats None h = refl
none_repeats (Some i) h = absurd (cc)

names_are_distinct : (f : Format) (ds : List Data) (ws : List Written) (cs : List Col) → Reads (column_of f) ds ws → Reads values_of ws cs → columns_spot f why.Name ds ≡ None → are_distinct (table.names_of (table.table_of cs)) ≡ true
names_are_distinct f ds ws cs reads made h =
    let none : find (repeats (map name_at ds)) (row_numbers (length ds)) ≡ None = none_repeats _ h in
    let counted : find (repeats (map name_at ds)) (row_numbers (length (map name_at ds))) ≡ None = ap (λ n. find (repeats (map name_at ds)) (row_numbers n)) (length-map ds name_at) ∙ none in
    ap are_distinct (names_are f ds ws cs reads made) ∙ ap (λ o. is_none (option_map (refusal.name_at (map name_at ds)) o)) counted

-- ---- the flags

flags_are_held : (f : Format) (ds : List Data) (ws : List Written) (cs : List Col) → Each (λ (w : Written). rows_of_runs w.values ≤ MAX_ROWS) ws → Reads (column_of f) ds ws → Reads values_of ws cs
    → columns_spot f why.Flag ds ≡ None → flags_hold cs ≡ true
flags_are_held f ds ws cs rows reads made h = each_holds (column_of f) values_of (flag_spot f) (λ (w : Written). rows_of_runs w.values ≤ MAX_ROWS) (λ (c : Col). flag_holds c.flag c.kind (values c)) 0 ds ws cs
    (λ d w c few is make none. flag_is_held f d w c is make few none) rows reads made h

-- ---- the rows of runs

column_rows : (f : Format) (d : Data) (w : Written) → column_of f d ≡ Some w → rows_of_runs w.values ≤ count_at Runs d
column_rows Chunks d w is =
    let chunks = chunks_written d w (is_written Chunks d w is) in
    rw chunks.1 (omega arith)
column_rows Runs d w is =
    let runs = runs_written d w (is_written Runs d w is) in
    rw runs.1 (omega (arith, counts_written w.kind (runs_at d) runs.0 runs.2))

rows_written : (f : Format) (ds : List Data) (ws : List Written) → Reads (column_of f) ds ws → rows_in ws ≤ sum_by (count_at Runs) ds
rows_written f [] [] reads = omega arith
rows_written f [] (w ∷ ws) reads = absurd reads
rows_written f (d ∷ ds) [] reads = absurd reads
rows_written f (d ∷ ds) (w ∷ ws) reads = omega (arith, sum_by-cons (λ (v : Written). rows_of_runs v.values) w ws, sum_by-cons (count_at Runs) d ds, column_rows f d w reads.0, rows_written f ds ws reads.1)

pub few_rows : (n : ℕ) (ws : List Written) → rows_in ws ≤ n → Each (λ (w : Written). rows_of_runs w.values ≤ n) ws
few_rows n [] h = tt
few_rows n (w ∷ ws) h =
    let sum : rows_in (w ∷ ws) ≡ rows_of_runs w.values + rows_in ws = sum_by-cons (λ (v : Written). rows_of_runs v.values) w ws in
    (omega arith, few_rows n ws (omega arith))

run_has_room : (room : ℕ) (run : Data) → run_room_spot room run ≡ None → times_at run ≤ room
run_has_room room run h = leb-true _ _ (so _ expected.FewRunValues h)

column_has_room : (room : ℕ) (d : Data) → column_room_spot room d ≡ None → count_at Runs d ≤ room
column_has_room room d h = in_room times_at run_room_spot run_has_room room 0 (runs_at d) (inside_items (codes "runs") (first_in_room times_at run_room_spot room 0) d refl h)

-- ---- tables

pub columns_written : (f : Format) (t : Data) (ws : List Written) → table_of f t ≡ Some ws → Reads (column_of f) (columns_of t) ws
unfolding table_of
columns_written f t ws h =
    let known = taken _ (check (has_only (names_of table_members) t)) ws h in
    items_read (column_of f) (get (codes "columns") t) ws known.2

-- no spot is found in the columns
columns_free : (f : Format) (reason : Reason) (t : Data) → table_spot f reason t ≡ None → columns_spot f reason (columns_of t) ≡ None
columns_free f reason t h =
    let parts = neither (members_spot table_members t) _ h in
    not_under (Member (codes "columns")) _ parts.1

-- no spot is found in any of them
abbrev pub Free : (Data → Option Spot) → List Data → Type 0
Free g [] = ⊤
Free g (t ∷ ts) = (g t ≡ None) × Free g ts

pub tables_made : (f : Format) (ts : List Data) (wss : List (List Written)) → Reads (table_of f) ts wss → Free (table_spot f why.Value) ts → is_some (lists.each columns_from wss) ≡ true
tables_made f [] [] reads h = refl
tables_made f [] (ws ∷ wss) reads h = absurd reads
tables_made f (t ∷ ts) [] reads h = absurd reads
tables_made f (t ∷ ts) (ws ∷ wss) reads h =
    one_more (columns_from ws) (lists.each columns_from wss)
    (columns_made f (columns_of t) ws (columns_written f t ws reads.0) (columns_free f why.Value t h.0))
    (tables_made f ts wss reads.1 h.1)

-- a test of each table
all_hold : (f : Format) (reason : Reason) (P : List Written → Type 0) (p : List Col → Bool)
    → ((t : Data) (ws : List Written) (cs : List Col) → P ws → Reads (column_of f) (columns_of t) ws → Reads values_of ws cs → columns_spot f reason (columns_of t) ≡ None → p cs ≡ true)
    → (ts : List Data) (wss : List (List Written)) (css : List (List Col)) → Each P wss → Reads (table_of f) ts wss → Reads columns_from wss css → Free (table_spot f reason) ts → list_all p css ≡ true
all_hold f reason P p one [] [] [] all reads made h = refl
all_hold f reason P p one [] [] (cs ∷ css) all reads made h = absurd made
all_hold f reason P p one [] (ws ∷ wss) css all reads made h = absurd reads
all_hold f reason P p one (t ∷ ts) [] css all reads made h = absurd reads
all_hold f reason P p one (t ∷ ts) (ws ∷ wss) [] all reads made h = absurd made
all_hold f reason P p one (t ∷ ts) (ws ∷ wss) (cs ∷ css) all reads made h =
    both_hold (p cs) (list_all p css)
    (one t ws cs all.0 (columns_written f t ws reads.0) (each_read values_of ws cs made.0) (columns_free f reason t h.0))
    (all_hold f reason P p one ts wss css all.1 reads.1 made.1 h.1)

pub tables_are_level : (f : Format) (ts : List Data) (wss : List (List Written)) (css : List (List Col)) → Reads (table_of f) ts wss → Reads columns_from wss css → Free (table_spot f why.Heights) ts → list_all are_level (map table.table_of css) ≡ true
tables_are_level f ts wss css reads made h =
    list_all-map are_level table.table_of css
    ∙ all_hold f why.Heights (λ _. ⊤) (λ cs. are_level (table.table_of cs)) (λ t ws cs _. heights_are_level f (columns_of t) ws cs) ts wss css (any wss) reads made h

pub tables_are_distinct : (f : Format) (ts : List Data) (wss : List (List Written)) (css : List (List Col)) → Reads (table_of f) ts wss → Reads columns_from wss css → Free (table_spot f why.Name) ts
    → list_all (λ t. are_distinct (table.names_of t)) (map table.table_of css) ≡ true
tables_are_distinct f ts wss css reads made h =
    list_all-map (λ (t : table.Table). are_distinct (table.names_of t)) table.table_of css
    ∙ all_hold f why.Name (λ _. ⊤) (λ cs. are_distinct (table.names_of (table.table_of cs))) (λ t ws cs _. names_are_distinct f (columns_of t) ws cs) ts wss css (any wss) reads made h

-- where all runs have few rows, so have those of each column
each_few : (n : ℕ) (wss : List (List Written)) → rows_in_tables wss ≤ n → Each (λ ws. rows_in ws ≤ n) wss
each_few n [] h = tt
each_few n (ws ∷ wss) h =
    let sum : rows_in_tables (ws ∷ wss) ≡ rows_in ws + rows_in_tables wss = sum_by-cons rows_in ws wss in
    (omega arith, each_few n wss (omega arith))

pub tables_hold : (f : Format) (ts : List Data) (wss : List (List Written)) (css : List (List Col)) → rows_in_tables wss ≤ MAX_ROWS → Reads (table_of f) ts wss → Reads columns_from wss css → Free (table_spot f why.Flag) ts → list_all flags_hold css ≡ true
tables_hold f ts wss css few reads made h =
    all_hold f why.Flag (λ ws. rows_in ws ≤ MAX_ROWS) flags_hold (λ t ws cs rows. flags_are_held f (columns_of t) ws cs (few_rows MAX_ROWS ws rows)) ts wss css (each_few MAX_ROWS wss few) reads made h

-- ---- the rows of runs of tables

pub rows_of_tables : (f : Format) (ts : List Data) (wss : List (List Written)) → Reads (table_of f) ts wss → rows_in_tables wss ≤ sum_by table_rows ts
rows_of_tables f [] [] reads = omega arith
rows_of_tables f [] (ws ∷ wss) reads = absurd reads
rows_of_tables f (t ∷ ts) [] reads = absurd reads
rows_of_tables f (t ∷ ts) (ws ∷ wss) reads = omega (arith, sum_by-cons rows_in ws wss, sum_by-cons table_rows t ts, rows_written f (columns_of t) ws (columns_written f t ws reads.0), rows_of_tables f ts wss reads.1)

pub table_has_room : (room : ℕ) (t : Data) → table_room_spot room t ≡ None → table_rows t ≤ room
table_has_room room t h = in_room (count_at Runs) column_room_spot column_has_room room 0 (columns_of t) (not_under (Member (codes "columns")) _ h)
