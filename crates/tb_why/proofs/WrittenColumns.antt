-- What stands in the JSON value of a column that is read.
use Rattle.std.proofs.Common.{◌≡◌, ◌∙◌, ℕ, List, [], ◌∷◌, map, Bool, true, false, ◌&&◌, not, ◌||◌, Option, Some, None, cond, codes, refl, sym, subst, ap, arith}
use Rattle.std.specs.Prelude.{◌==◌, nat_le, option_and_then, option_map, unwrap_or, sum_by}
use Rattle.std.proofs.lemmas.List.Sums.{sum_by-cons}
use Rattle.serde_json.specs.Data.{Data}
use Rattle.serde_json.specs.Find.{as_str, get}
use Rattle.tb_tree.specs.View.{pair_of}
use Rattle.tb_value.specs.Promise.Kind.{Kind}
use Rattle.tb_value.specs.Promise.Names.{Name}
use Rattle.tb_value.specs.declared.sorted.IsSorted.{IsSorted}
use Rattle.tb_chunk.specs.RunLayout.{total_of}
use Rattle.tb_json.specs.Promise.Lists.{as_list, check, has_only, list_of}
use Rattle.tb_request.specs.declared.shape.Format.{Format}
use Rattle.tb_request.specs.declared.shape.Format.TheVariants.{Chunks, Runs}
use Rattle.tb_request.specs.Promise.Written.{column_of, flag_of, holds_values, in_chunks, in_runs, run_of, times_of, values_in, whole_of, Written, WrittenRun, WrittenValues}
use Rattle.tb_request.specs.Promise.Members.{column_members, names_of}
use Rattle.tb_request.proofs.Parts.{run_of_pair}
use Rattle.tb_why.specs.Columns.{items_at, items_of, kind_at, name_at, runs_at, times_at}
use Rattle.tb_why.proofs.EachRead.{Reads, items_read, mapped_from, same_some, taken}

-- the parts of a column, each from the member that has it
pub record IsWritten (f : Format) (d : Data) (w : Written) : Type 0 where
  pub kind : kind_at d ≡ Some w.kind
  pub name : name_at d ≡ w.name
  pub flag : flag_of d ≡ Some w.flag
  pub values : values_in f w.kind d ≡ Some w.values

column_written : (f : Format) (d : Data) (n : Name) (flag : IsSorted) (t : Kind) (vs : WrittenValues) (w : Written) → option_and_then as_str (get (codes "name") d) ≡ Some n → flag_of d ≡ Some flag → kind_at d ≡ Some t → values_in f t d ≡ Some vs
    → record { name = n; kind = t; values = vs; flag = flag } ≡ w → IsWritten f d w
column_written f d n flag t vs w name flagged kind values is = subst (IsWritten f d) is (record { kind = kind; name = ap (λ o. unwrap_or o []) name; flag = flagged; values = values })

pub is_written : (f : Format) (d : Data) (w : Written) → column_of f d ≡ Some w → IsWritten f d w
unfolding column_of
is_written f d w h =
    let known = taken _ (check (has_only (names_of (column_members f)) d)) w h in
    let name = taken _ (option_and_then as_str (get (codes "name") d)) w known.2 in
    let flag = taken _ (flag_of d) w name.2 in
    let kind = taken _ (kind_at d) w flag.2 in
    let values = taken _ (values_in f kind.0 d) w kind.2 in
    column_written f d name.0 flag.0 kind.0 values.0 w name.1 flag.1 kind.1 values.1 (same_some _ w values.2)

-- ---- chunks

pub chunks_written : (d : Data) (w : Written) → IsWritten Chunks d w → (cs : List (List Data)) × (w.values ≡ in_chunks cs) × Reads as_list (items_at (codes "chunks") d) cs
chunks_written d w k =
    let chunks = mapped_from in_chunks (option_and_then (list_of as_list) (get (codes "chunks") d)) w.values k.values in
    (chunks.0, sym chunks.2, items_read as_list (get (codes "chunks") d) chunks.0 chunks.1)

-- the chunks that stand there
pub chunks_are : (ds : List Data) (cs : List (List Data)) → Reads as_list ds cs → map items_of ds ≡ cs
chunks_are [] [] reads = refl
chunks_are [] (c ∷ cs) reads = absurd reads
chunks_are (d ∷ ds) [] reads = absurd reads
chunks_are (d ∷ ds) (c ∷ cs) reads = λ i. unwrap_or (reads.0 i) [] ∷ chunks_are ds cs reads.1 i

-- ---- runs

pub runs_written : (d : Data) (w : Written) → IsWritten Runs d w → (rs : List WrittenRun) × (w.values ≡ in_runs rs) × Reads (run_of w.kind) (runs_at d) rs
runs_written d w k =
    let runs = mapped_from in_runs (option_and_then (list_of (run_of w.kind)) (get (codes "runs") d)) w.values k.values in
    (runs.0, sym runs.2, items_read (run_of w.kind) (get (codes "runs") d) runs.0 runs.1)

-- the two values of a run
pub record IsRun (t : Kind) (run : Data) (r : WrittenRun) : Type 0 where
  pub count : Data
  pub parts : pair_of run ≡ Some (r.0, count)
  pub times : whole_of count ≡ Some r.1

times_are : (t : Kind) (n m : ℕ) → times_of t n ≡ Some m → n ≡ m
times_are t n m h = times_if (nat_le 1 n && (not (holds_values t) || (n == 1))) h where
  times_if : (b : Bool) → cond b (Some n) None ≡ Some m → n ≡ m
  times_if true k = cc
  times_if false k = absurd (cc)

abbrev counted : Kind → Data × Data → Option WrittenRun
counted t p = option_map (λ times. (p.0, times)) (option_and_then (times_of t) (whole_of p.1))

run_parts : (t : Kind) (run : Data) (o : Option (Data × Data)) (r : WrittenRun) → pair_of run ≡ o → option_and_then (counted t) o ≡ Some r → IsRun t run r
run_parts t run None r is h = absurd (cc)
run_parts t run (Some p) r is h =
    let times = mapped_from (λ (m : ℕ). (p.0, m)) (option_and_then (times_of t) (whole_of p.1)) r h in
    let whole = taken (times_of t) (whole_of p.1) times.0 times.1 in
    let of_pair : IsRun t run (p.0, times.0) = record {
      count = p.1;
      parts = is;
      times = whole.1 ∙ ap Some (times_are t whole.0 times.0 whole.2);
    } in
    subst (IsRun t run) times.2 of_pair

pub is_run : (t : Kind) (run : Data) (r : WrittenRun) → run_of t run ≡ Some r → IsRun t run r
is_run t run r h = run_parts t run (pair_of run) r refl (sym (run_of_pair t run) ∙ h)

pub times_written : (t : Kind) (run : Data) (r : WrittenRun) → run_of t run ≡ Some r → times_at run ≡ r.1
times_written t run r h =
    let k : IsRun t run r = is_run t run r h in
    ap (λ o. unwrap_or (option_and_then (λ (p : Data × Data). whole_of p.1) o) 0) k.parts ∙ ap (λ o. unwrap_or o 0) k.times

pub counts_written : (t : Kind) (ds : List Data) (rs : List WrittenRun) → Reads (run_of t) ds rs → sum_by times_at ds ≡ total_of rs
counts_written t [] [] reads = refl
counts_written t [] (r ∷ rs) reads = absurd reads
counts_written t (d ∷ ds) [] reads = absurd reads
counts_written t (d ∷ ds) (r ∷ rs) reads = omega (arith, sum_by-cons times_at d ds, sum_by-cons (λ (s : WrittenRun). s.1) r rs, times_written t d r reads.0, counts_written t ds rs reads.1)
