-- The columns that are made of JSON values, where no spot is found in these.
use Rattle.std.proofs.Common.{◌≡◌, ◌∙◌, ℕ, ◌≤◌, List, [], ◌∷◌, length, replicate, true, Option, Some, None, codes, refl, sym, subst, ap, arith, length-append}
use Rattle.std.specs.Prelude.{is_some, nat_le, option_and_then, option_map, unwrap_or, sum_by}
use Rattle.std.proofs.lemmas.Bool.{le-leb, leb-true}
use Rattle.std.proofs.lemmas.List.{append-nil, length-replicate}
use Rattle.std.proofs.lemmas.List.Concat.{length-flat_map}
use Rattle.std.proofs.lemmas.List.Sums.{sum_by-cons}
use Rattle.serde_json.specs.Data.{Data}
use Rattle.tb_value.specs.Promise.Datum.{Datum}
use Rattle.tb_value.specs.Promise.Kind.{Kind}
use Rattle.tb_value.specs.declared.limits.TheConstants.{MAX_ROWS}
use Rattle.tb_chunk.specs.Promise.Col.{Col, concatenation, values}
use Rattle.tb_chunk.specs.Promise.Made.{at_least_one, fresh_column}
use Rattle.tb_chunk.specs.RunLayout.{expansion, total_of}
use Rattle.tb_json.specs.Promise.Cells.{cell_in}
use Rattle.tb_json.specs.Promise.Lists.{as_list, check, each}
use Rattle.tb_request.specs.declared.shape.Format.{Format}
use Rattle.tb_request.specs.declared.shape.Format.TheVariants.{Chunks, Runs}
use Rattle.tb_request.specs.Promise.Columns.{chunks_in, rows_of_runs, run_in, values_of}
use Rattle.tb_request.specs.Promise.Flags.{flag_holds}
use Rattle.tb_request.specs.Promise.Written.{column_of, in_chunks, in_runs, run_of, Written, WrittenRun}
use Rattle.tb_why.specs.declared.spot.Expected.TheVariants as expected
use Rattle.tb_why.specs.declared.spot.Step.TheVariants.{Index}
use Rattle.tb_why.specs.Spots.{first_at, inside, under, unless}
use Rattle.tb_why.specs.Columns.{cell_spot, chunk_spot, chunks_at, chunks_spot, count_at, few_values, flag_is_true, flag_spot, is_ordered, items_at, items_of, run_value_spot, runs_at, typed_spot, value_expected, values_spot, values_with}
use Rattle.tb_why.proofs.Unfound.{Given, each_reads, given, inside_items, mapped, neither, not_under, so}
use Rattle.tb_why.proofs.EachRead.{Reads, checked, each_read, mapped_from, next_reads, reads_twice, same_length, same_some, taken}
use Rattle.tb_why.proofs.WrittenColumns.{IsRun, IsWritten, chunks_are, chunks_written, counts_written, is_run, is_written, runs_written}

-- ---- how many values there are

listed_lengths : {A B : Type 0} (f : A → Option B) (xss : List (List A)) (yss : List (List B)) → Reads (each f) xss yss → sum_by (λ ys. length ys) yss ≡ sum_by (λ xs. length xs) xss
listed_lengths f [] [] reads = refl
listed_lengths f [] (ys ∷ yss) reads = absurd reads
listed_lengths f (xs ∷ xss) [] reads = absurd reads
listed_lengths f (xs ∷ xss) (ys ∷ yss) reads = omega (arith, sum_by-cons (λ (zs : List _). length zs) xs xss, sum_by-cons (λ (zs : List _). length zs) ys yss, same_length f xs ys (each_read f xs ys reads.0), listed_lengths f xss yss reads.1)

joined_length : (t : Kind) (cs : List (List Data)) (lists : List (List Datum)) → each (each (cell_in t)) cs ≡ Some lists → length (concatenation lists) ≡ sum_by (λ (c : List Data). length c) cs
joined_length t cs lists h = length-flat_map (λ (vs : List Datum). vs) lists ∙ listed_lengths (cell_in t) cs lists (each_read (each (cell_in t)) cs lists h)

run_count : (t : Kind) (r : WrittenRun) (v : Datum × ℕ) → run_in t r ≡ Some v → v.1 ≡ r.1
run_count t r v h =
    let cell = mapped_from (λ (x : Datum). (x, r.1)) (cell_in t r.0) v h in
    ap (λ (p : Datum × ℕ). p.1) (sym cell.2)

run_counts : (t : Kind) (rs : List WrittenRun) (vs : List (Datum × ℕ)) → Reads (run_in t) rs vs → total_of vs ≡ total_of rs
run_counts t [] [] reads = refl
run_counts t [] (v ∷ vs) reads = absurd reads
run_counts t (r ∷ rs) [] reads = absurd reads
run_counts t (r ∷ rs) (v ∷ vs) reads = omega (arith, sum_by-cons (λ (s : WrittenRun). s.1) r rs, sum_by-cons (λ (s : Datum × ℕ). s.1) v vs, run_count t r v reads.0, run_counts t rs vs reads.1)

-- ---- where each value is of the type, there is a column

made : (w : Written) → is_some (chunks_in w.kind w.values) ≡ true → is_some (values_of w) ≡ true
unfolding values_of
made w h = mapped _ (chunks_in w.kind w.values) h

cells_read : (t : Kind) (d : Data) (c : List Data) → as_list d ≡ Some c → chunk_spot t d ≡ None → is_some (each (cell_in t) c) ≡ true
cells_read t d c is h =
    let items : items_of d ≡ c = ap (λ o. unwrap_or o []) is in
    each_reads (cell_in t) (cell_spot t) 0 c (subst (λ vs. first_at (cell_spot t) 0 vs ≡ None) items h) (λ v k. so _ (value_expected t) k)

chunks_made : (t : Kind) (cs : List (List Data)) → is_some (each (each (cell_in t)) cs) ≡ true → sum_by (λ (c : List Data). length c) cs ≤ MAX_ROWS → is_some (chunks_in t (in_chunks cs)) ≡ true
chunks_made t cs some few =
    let lists : Given (each (each (cell_in t)) cs) = given (each (each (cell_in t)) cs) some in
    let short : nat_le (length (concatenation lists.0)) MAX_ROWS ≡ true = le-leb _ _ (omega (arith, few, joined_length t cs lists.0 lists.1)) in
    rw (lists.1, short) refl

chunk_values_made : (d : Data) (w : Written) → IsWritten Chunks d w → values_spot Chunks d ≡ None → is_some (values_of w) ≡ true
chunk_values_made d w k h =
    let typed : typed_spot Chunks w.kind d ≡ None = ap (option_and_then (λ t. typed_spot Chunks t d)) (sym k.kind) ∙ h in
    let parts = neither (inside (codes "chunks") (chunks_spot w.kind) d) _ typed in
    let chunks = chunks_written d w k in
    let few : sum_by (λ (c : List Data). length c) chunks.0 ≤ MAX_ROWS = leb-true _ _ (ap (λ cs. nat_le (sum_by (λ (c : List Data). length c) cs) MAX_ROWS) (sym (chunks_are _ chunks.0 chunks.2)) ∙ so _ expected.FewValues parts.1) in
    let all : is_some (each (each (cell_in w.kind)) chunks.0) ≡ true = next_reads as_list (each (cell_in w.kind)) (chunk_spot w.kind) 0 (items_at (codes "chunks") d) chunks.0 chunks.2 (inside_items (codes "chunks") (first_at (chunk_spot w.kind) 0) d refl parts.0) (cells_read w.kind) in
    made w (subst (λ vs. is_some (chunks_in w.kind vs) ≡ true) (sym chunks.1) (chunks_made w.kind chunks.0 all few))

run_value_read : (t : Kind) (run : Data) (r : WrittenRun) → run_of t run ≡ Some r → run_value_spot t run ≡ None → is_some (run_in t r) ≡ true
run_value_read t run r is h =
    let k : IsRun t run r = is_run t run r is in
    let value : under (Index 0) (cell_spot t r.0) ≡ None = ap (option_and_then (λ (p : Data × Data). under (Index 0) (cell_spot t p.0))) (sym k.parts) ∙ h in
    mapped _ (cell_in t r.0) (so _ (value_expected t) (not_under (Index 0) _ value))

run_values_made : (d : Data) (w : Written) → IsWritten Runs d w → values_spot Runs d ≡ None → is_some (values_of w) ≡ true
run_values_made d w k h =
    let typed : typed_spot Runs w.kind d ≡ None = ap (option_and_then (λ t. typed_spot Runs t d)) (sym k.kind) ∙ h in
    let runs = runs_written d w k in
    let all : is_some (each (run_in w.kind) runs.0) ≡ true = next_reads (run_of w.kind) (run_in w.kind) (run_value_spot w.kind) 0 (runs_at d) runs.0 runs.2 (inside_items (codes "runs") (first_at (run_value_spot w.kind) 0) d refl typed) (run_value_read w.kind) in
    made w (subst (λ vs. is_some (chunks_in w.kind vs) ≡ true) (sym runs.1) (mapped _ (each (run_in w.kind) runs.0) all))

pub values_made : (f : Format) (d : Data) (w : Written) → column_of f d ≡ Some w → values_spot f d ≡ None → is_some (values_of w) ≡ true
values_made Chunks d w is h = chunk_values_made d w (is_written Chunks d w is) h
values_made Runs d w is h = run_values_made d w (is_written Runs d w is) h

-- ---- the column, where there is one

-- what is known of the column by the JSON value
pub record IsMade (f : Format) (d : Data) (w : Written) (c : Col) : Type 0 where
  pub name : c.name ≡ w.name
  pub kind : c.kind ≡ w.kind
  pub flag : c.flag ≡ w.flag
  pub read : values_with f d w.kind ≡ Some (values c)
  pub count : count_at f d ≡ length (values c)
  pub few : rows_of_runs w.values ≤ MAX_ROWS → length (values c) ≤ MAX_ROWS

column_with : (f : Format) (d : Data) (w : Written) (chunks : List (List Datum)) (c : Col) → fresh_column w.name w.kind chunks w.flag ≡ c → values_with f d w.kind ≡ Some (concatenation chunks)
    → count_at f d ≡ length (concatenation chunks) → (rows_of_runs w.values ≤ MAX_ROWS → length (concatenation chunks) ≤ MAX_ROWS) → IsMade f d w c
column_with f d w chunks c is vs count few = subst (IsMade f d w) is (record { name = refl; kind = refl; flag = refl; read = vs; count = count; few = few })

lone : (lists : List (List Datum)) → concatenation (at_least_one lists) ≡ concatenation lists
lone [] = refl
lone (c ∷ cs) = refl

chunks_of : (w : Written) (c : Col) → values_of w ≡ Some c → (chunks : List (List Datum)) × (chunks_in w.kind w.values ≡ Some chunks) × (fresh_column w.name w.kind chunks w.flag ≡ c)
unfolding values_of
chunks_of w c h = mapped_from _ (chunks_in w.kind w.values) c h

chunks_are_made : (d : Data) (w : Written) (c : Col) → IsWritten Chunks d w → values_of w ≡ Some c → IsMade Chunks d w c
chunks_are_made d w c k h =
    let made = chunks_of w c h in
    let chunks = chunks_written d w k in
    let read : chunks_in w.kind (in_chunks chunks.0) ≡ Some made.0 = ap (chunks_in w.kind) (sym chunks.1) ∙ made.1 in
    let lists = taken _ (each (each (cell_in w.kind)) chunks.0) made.0 read in
    let short = taken _ (check (nat_le (length (concatenation lists.0)) MAX_ROWS)) made.0 lists.2 in
    let same : concatenation made.0 ≡ concatenation lists.0 = ap concatenation (sym (same_some _ made.0 short.2)) ∙ lone lists.0 in
    let there : chunks_at d ≡ chunks.0 = chunks_are _ chunks.0 chunks.2 in
    column_with Chunks d w made.0 c made.2
    (ap (λ cs. option_map concatenation (each (each (cell_in w.kind)) cs)) there ∙ ap (option_map concatenation) lists.1 ∙ ap Some (sym same))
    (ap (λ cs. sum_by (λ (e : List Data). length e) cs) there ∙ sym (joined_length w.kind chunks.0 lists.0 lists.1) ∙ ap length (sym same))
    (λ _. rw same (leb-true _ _ (checked _ short.0 short.1)))

expanded : (vs : List (Datum × ℕ)) → length (expansion vs) ≡ total_of vs
expanded [] = refl
expanded (v ∷ vs) = omega (arith, length-append (replicate v.1 v.0) (expansion vs), length-replicate v.1 v.0, expanded vs, sum_by-cons (λ (s : Datum × ℕ). s.1) v vs)

runs_are_made : (d : Data) (w : Written) (c : Col) → IsWritten Runs d w → values_of w ≡ Some c → IsMade Runs d w c
runs_are_made d w c k h =
    let made = chunks_of w c h in
    let runs = runs_written d w k in
    let read : chunks_in w.kind (in_runs runs.0) ≡ Some made.0 = ap (chunks_in w.kind) (sym runs.1) ∙ made.1 in
    let pairs = mapped_from _ (each (run_in w.kind) runs.0) made.0 read in
    let each_pair : Reads (run_in w.kind) runs.0 pairs.0 = each_read (run_in w.kind) runs.0 pairs.0 pairs.1 in
    let same : concatenation made.0 ≡ expansion pairs.0 = ap concatenation (sym pairs.2) ∙ append-nil (expansion pairs.0) in
    let rows : total_of pairs.0 ≡ total_of runs.0 = run_counts w.kind runs.0 pairs.0 each_pair in
    column_with Runs d w made.0 c made.2
    (ap (option_map expansion) (reads_twice (run_of w.kind) (run_in w.kind) (runs_at d) runs.0 pairs.0 runs.2 each_pair) ∙ ap Some (sym same))
    (counts_written w.kind (runs_at d) runs.0 runs.2 ∙ sym rows ∙ sym (expanded pairs.0) ∙ ap length (sym same))
    (λ few. rw (same, expanded pairs.0, rows) (subst (λ vs. rows_of_runs vs ≤ MAX_ROWS) runs.1 few))

pub is_made : (f : Format) (d : Data) (w : Written) (c : Col) → column_of f d ≡ Some w → values_of w ≡ Some c → IsMade f d w c
is_made Chunks d w c is h = chunks_are_made d w c (is_written Chunks d w is) h
is_made Runs d w c is h = runs_are_made d w c (is_written Runs d w is) h

-- ---- its flag

pub flag_is_held : (f : Format) (d : Data) (w : Written) (c : Col) → column_of f d ≡ Some w → values_of w ≡ Some c → rows_of_runs w.values ≤ MAX_ROWS → flag_spot f d ≡ None → flag_holds c.flag c.kind (values c) ≡ true
flag_is_held f d w c is h rows none =
    let k : IsWritten f d w = is_written f d w is in
    let m : IsMade f d w c = is_made f d w c is h in
    let short : nat_le (length (values c)) MAX_ROWS ≡ true = le-leb _ _ (m.few rows) in
    let claimed : flag_is_true f w.flag d ≡ true = so _ (expected.Ordered w.flag) (ap (option_and_then (λ flag. unless (flag_is_true f flag d) (expected.Ordered flag))) (sym k.flag) ∙ none) in
    let of_kind : is_ordered f w.flag d w.kind ≡ true = ap (λ o. unwrap_or (option_map (is_ordered f w.flag d) o) true) (sym k.kind) ∙ claimed in
    let few : few_values f d w.kind ≡ Some (values c) = ap (option_and_then (λ vs. option_and_then (λ u. Some vs) (check (nat_le (length vs) MAX_ROWS)))) m.read ∙ ap (λ b. option_and_then (λ u. Some (values c)) (check b)) short in
    (λ i. flag_holds (m.flag i) (m.kind i) (values c)) ∙ ap (λ o. unwrap_or (option_map (flag_holds w.flag w.kind) o) true) (sym few) ∙ of_kind
