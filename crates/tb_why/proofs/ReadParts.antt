-- The parts of a request are read, where no spot is found in them.
use Rattle.std.proofs.Common.{◌≡◌, ℕ, List, [], ◌∷◌, Bool, true, false, ◌||◌, Option, Some, None, codes, refl, ap, sym, ◌∙◌}
use Rattle.std.specs.Prelude.{is_some, option_and_then, option_map, unwrap_or}
use Rattle.serde_json.specs.Data.{Data}
use Rattle.serde_json.specs.Find.{as_bool, as_str, get}
use Rattle.tb_tree.specs.View.{pair_of}
use Rattle.tb_value.specs.Promise.Kind.{Kind}
use Rattle.tb_value.specs.declared.sorted.IsSorted.TheVariants.{Not}
use Rattle.tb_frame.specs.declared.null_flags.JoinNulls.TheVariants.{All}
use Rattle.tb_json.specs.Promise.Kinds.{kind_in}
use Rattle.tb_json.specs.Promise.Lists.{as_list, each, has_only, list_of}
use Rattle.tb_request.specs.declared.request.Reason.TheVariants as why
use Rattle.tb_request.specs.declared.shape.Format.{Format}
use Rattle.tb_request.specs.declared.shape.Format.TheVariants.{Chunks, Runs}
use Rattle.tb_request.specs.Promise.Written as written
use Rattle.tb_request.specs.Promise.Written.{args_of, coalesce_named, coalesce_of, column_of, count_at, count_of, exec_of, flag_named, flag_of, how_named, how_of, in_chunks, in_runs, nulls_from, nulls_in, nulls_of, order_named, order_of, plan_of, run_of, slice_in, slice_of, table_of, text_at, text_or, times_of, validation_named, validation_of, values_in, whole_of, WrittenRun}
use Rattle.tb_request.specs.declared.known.Form.TheVariants as form
use Rattle.tb_request.specs.declared.known.Word.TheVariants as word
use Rattle.tb_request.specs.Promise.Members.{args_members, column_members, exec_members, names_of, needed_member, possible_member, table_members}
use Rattle.tb_request.proofs.Parts.{run_of_pair}
use Rattle.tb_why.specs.declared.spot.Step.TheVariants.{Index}
use Rattle.tb_why.specs.Spots.{Spot, first_at, inside}
use Rattle.tb_why.specs.Arguments.{args_spot, flag_spot, flags_spot}
use Rattle.tb_why.specs.Members.{fault_of, members_spot}
use Rattle.tb_why.specs.Columns.{columns_of, columns_spot, counted_spot, kind_at, parts_spot, run_spot, runs_spot, shape_spot, table_spot, times_expected, times_spot}
use Rattle.tb_why.proofs.Unfound.{EachFits, Fits, Given, at_member, each_of_them, fits, given, list_reads, mapped, needed_reads, neither, not_under, optional_reads, so, then_some, two_steps, word_reads}

-- ---- the arguments of a join

nulls_read : (b : Option Bool) (l : Option (List Data)) → is_some b || is_some l ≡ true → first_at flag_spot 0 (unwrap_or l []) ≡ None → is_some (nulls_from b (option_and_then (each as_bool) l)) ≡ true
nulls_read (Some b) l h k = refl
nulls_read None l h k = mapped _ (option_and_then (each as_bool) l) (list_reads as_bool flag_spot l h k (λ d e. so (is_some (as_bool d)) _ e))

pub args_read : (d : Data) → args_spot d ≡ None → is_some (args_of d) ≡ true
unfolding args_of
args_read d h =
    let parts : (members_spot args_members d ≡ None) × (inside (codes "join_nulls") flags_spot d ≡ None) = neither _ _ h in
    let f : Fits args_members d = fits args_members d parts.0 in
    let m : EachFits args_members d = each_of_them args_members d f.members in
    let coalesce : Given (coalesce_of d) = given (coalesce_of d) (optional_reads (codes "coalesce") (form.Word word.Coalesce) _ (λ m. option_and_then coalesce_named (as_str m)) (get (codes "coalesce") d) m.0 (λ m _. word_reads coalesce_named (as_str m))) in
    let how : Given (how_of d) = given (how_of d) (two_steps as_str how_named (get (codes "how") d) (needed_reads (codes "how") (form.Word word.How) (λ m. option_and_then how_named (as_str m)) (get (codes "how") d) m.1.0 (λ m _. word_reads how_named (as_str m)))) in
    let nulls : Given (nulls_of d) = given (nulls_of d) (optional_reads (codes "join_nulls") form.Nulls (All false) nulls_in (get (codes "join_nulls") d) m.1.1.0 (λ m is some. nulls_read (as_bool m) (as_list m) some (at_member (codes "join_nulls") flags_spot (get (codes "join_nulls") d) m is parts.1))) in
    let order : Given (order_of d) = given (order_of d) (optional_reads (codes "maintain_order") (form.Word word.Order) _ (λ m. option_and_then order_named (as_str m)) (get (codes "maintain_order") d) m.1.1.1.0 (λ m _. word_reads order_named (as_str m))) in
    let slice : Given (slice_of d) = given (slice_of d) (optional_reads (codes "slice") form.Slice None slice_in (get (codes "slice") d) m.1.1.1.1.0 (λ m _ some. some)) in
    let suffix : Given (text_at (codes "suffix") d) = given (text_at (codes "suffix") d) (optional_reads (codes "suffix") form.Text None (λ m. option_and_then (λ s. Some (Some s)) (as_str m)) (get (codes "suffix") d) m.1.1.1.1.1.0 (λ m _ some. then_some Some (as_str m) some)) in
    let validation : Given (validation_of d) = given (validation_of d) (optional_reads (codes "validation") (form.Word word.Validation) _ (λ m. option_and_then validation_named (as_str m)) (get (codes "validation") d) m.1.1.1.1.1.1.0 (λ m _. word_reads validation_named (as_str m))) in
    rw (f.only, how.1, validation.1, slice.1, coalesce.1, order.1, suffix.1, nulls.1) refl

-- ---- how the work is run

count_read : (n : List ℕ) (d : Data) → fault_of (needed_member n form.Count) (get n d) ≡ None → Given (count_at n d)
count_read n d h = given (count_at n d) (needed_reads n form.Count count_of (get n d) h (λ m _ some. some))

plan_read : (d : Data) → members_spot (exec_members) d ≡ None → is_some (plan_of d) ≡ true
unfolding plan_of
plan_read d h =
    let f : Fits (exec_members) d = fits (exec_members) d h in
    let m : EachFits (exec_members) d = each_of_them (exec_members) d f.members in
    let den = count_read (codes "den") d m.0 in
    let num = count_read (codes "num") d m.1.0 in
    let partitions = count_read (codes "partitions") d m.1.1.0 in
    let small = count_read (codes "small") d m.1.1.1.0 in
    let workers = count_read (codes "workers") d m.1.1.1.1.0 in
    rw (f.only, workers.1, partitions.1, small.1, num.1, den.1) refl

pub exec_read : (d : Data) → fault_of (possible_member (codes "exec") form.Object) (get (codes "exec") d) ≡ None → inside (codes "exec") (members_spot (exec_members)) d ≡ None → is_some (exec_of d) ≡ true
exec_read d k h = optional_reads (codes "exec") form.Object written.standard_exec plan_of (get (codes "exec") d) k (λ m is _. plan_read m (at_member (codes "exec") (members_spot (exec_members)) (get (codes "exec") d) m is h))

-- ---- columns

abbrev counted : Kind → Data × Data → Option WrittenRun
counted t p = option_map (λ times. (p.0, times)) (option_and_then (times_of t) (whole_of p.1))

pair_read : (t : Kind) (o : Option (Data × Data)) → parts_spot t o ≡ None → is_some (option_and_then (counted t) o) ≡ true
pair_read t None h = absurd (cc)
pair_read t (Some p) h = mapped _ (option_and_then (times_of t) (whole_of p.1)) (so _ (times_expected t) (not_under (Index 1) (times_spot t p.1) h))

run_read : (t : Kind) (d : Data) → run_spot t d ≡ None → is_some (run_of t d) ≡ true
run_read t d h = ap is_some (run_of_pair t d) ∙ pair_read t (pair_of d) h

pub name_read : (n : List ℕ) (d : Data) → fault_of (needed_member n form.Text) (get n d) ≡ None → Given (option_and_then as_str (get n d))
name_read n d h = given _ (needed_reads n form.Text as_str (get n d) h (λ m _ some. some))

flag_read : (d : Data) → fault_of (possible_member (codes "sorted") (form.Word word.Sorted)) (get (codes "sorted") d) ≡ None → Given (flag_of d)
flag_read d h = given (flag_of d) (optional_reads (codes "sorted") (form.Word word.Sorted) Not (λ m. option_and_then flag_named (as_str m)) (get (codes "sorted") d) h (λ m _. word_reads flag_named (as_str m)))

kind_read : (d : Data) → fault_of (needed_member (codes "type") form.Type) (get (codes "type") d) ≡ None → Given (kind_at d)
kind_read d h = given (kind_at d) (needed_reads (codes "type") form.Type kind_in (get (codes "type") d) h (λ m _ some. some))

at_kind : (o : Option Kind) (f : Kind → Option Spot) (t : Kind) → o ≡ Some t → option_and_then f o ≡ None → f t ≡ None
at_kind None f t e h = absurd (cc)
at_kind (Some s) f t e h =
    let same : s ≡ t = cc in
    ap f (sym same) ∙ h

column_given : (f : Format) (d : Data) → has_only (names_of (column_members f)) d ≡ true → Given (option_and_then as_str (get (codes "name") d)) → Given (flag_of d) → (t : Given (kind_at d)) → Given (values_in f t.0 d) → is_some (column_of f d) ≡ true
unfolding column_of
column_given f d only name flag kind values = rw (only, name.1, flag.1, kind.1, values.1) refl

chunk_column_read : (d : Data) → shape_spot Chunks d ≡ None → is_some (column_of Chunks d) ≡ true
chunk_column_read d h =
    let parts : (members_spot (column_members Chunks) d ≡ None) × (counted_spot Chunks d ≡ None) = neither _ _ h in
    let f : Fits (column_members Chunks) d = fits (column_members Chunks) d parts.0 in
    let m : EachFits (column_members Chunks) d = each_of_them (column_members Chunks) d f.members in
    column_given Chunks d f.only (name_read (codes "name") d m.1.0) (flag_read d m.1.1.0) (kind_read d m.1.1.1.0)
    (given _ (mapped in_chunks _ (needed_reads (codes "chunks") form.Chunks (list_of as_list) (get (codes "chunks") d) m.0 (λ m _ some. some))))

run_column_read : (d : Data) → shape_spot Runs d ≡ None → is_some (column_of Runs d) ≡ true
run_column_read d h =
    let parts : (members_spot (column_members Runs) d ≡ None) × (counted_spot Runs d ≡ None) = neither _ _ h in
    let f : Fits (column_members Runs) d = fits (column_members Runs) d parts.0 in
    let m : EachFits (column_members Runs) d = each_of_them (column_members Runs) d f.members in
    let kind : Given (kind_at d) = kind_read d m.1.1.1.0 in
    let counted : inside (codes "runs") (runs_spot kind.0) d ≡ None = at_kind (kind_at d) (λ t. inside (codes "runs") (runs_spot t) d) kind.0 kind.1 parts.1 in
    column_given Runs d f.only (name_read (codes "name") d m.0) (flag_read d m.1.1.0) kind
    (given _ (mapped in_runs _ (needed_reads (codes "runs") form.Runs (list_of (run_of kind.0)) (get (codes "runs") d) m.1.0
    (λ m is some. list_reads (run_of kind.0) (run_spot kind.0) (as_list m) some (at_member (codes "runs") (runs_spot kind.0) (get (codes "runs") d) m is counted) (run_read kind.0)))))

column_read : (f : Format) (d : Data) → shape_spot f d ≡ None → is_some (column_of f d) ≡ true
column_read Chunks d h = chunk_column_read d h
column_read Runs d h = run_column_read d h

-- ---- tables

pub table_read : (f : Format) (d : Data) → table_spot f why.Shape d ≡ None → is_some (table_of f d) ≡ true
unfolding table_of
table_read f d h =
    let parts = neither (members_spot table_members d) _ h in
    let k : Fits table_members d = fits table_members d parts.0 in
    let m : EachFits table_members d = each_of_them table_members d k.members in
    let inner : columns_spot f why.Shape (columns_of d) ≡ None = not_under _ _ parts.1 in
    let columns : Given (option_and_then (list_of (column_of f)) (get (codes "columns") d)) = given _ (needed_reads (codes "columns") form.Values (list_of (column_of f)) (get (codes "columns") d) m.0
    (λ m is some. list_reads (column_of f) (shape_spot f) (as_list m) some (ap (λ o. first_at (shape_spot f) 0 (unwrap_or (option_and_then as_list o) [])) (sym is) ∙ inner) (column_read f))) in
    rw (k.only, columns.1) refl
