-- How a join goes doesn't hang on where texts stand.
use Rattle.std.proofs.Common.{◌≡◌, ◌∙◌, ℕ, ◌^◌, Bool, true, false, cond, not, ◌&&◌, ◌||◌, List, [], ◌∷◌, length, map, Option, Some, None, option_map, refl, ap}
use Rattle.std.specs.Prelude.{nat_lt, slice_index_or}
use Rattle.std.specs.List.{cons_option, list_any}
use Rattle.std.proofs.lemmas.List.{length-map}
use Rattle.tb_value.specs.Promise.Datum.{Datum, null}
use Rattle.tb_value.specs.Promise.Kind.{Kind}
use Rattle.tb_value.specs.Promise.Names.{Name, same_name}
use Rattle.tb_value.specs.Promise.Pairs.{row_numbers}
use Rattle.tb_chunk.specs.Promise.Col.{Col, values}
use Rattle.tb_frame.specs.declared.args.JoinArgs.{JoinArgs}
use Rattle.tb_frame.specs.declared.args.JoinType.{JoinType}
use Rattle.tb_frame.specs.declared.args.JoinType.TheVariants.{Inner, Left, Right, Full, Semi, Anti}
use Rattle.tb_frame.specs.declared.args.JoinValidation.{JoinValidation}
use Rattle.tb_frame.specs.Promise.Frame.{selected_columns}
use Rattle.tb_frame.specs.Promise.Join.{flag_at}
use Rattle.tb_frame.proofs.Selected.{found}
use Rattle.tb_pool.specs.Promise.ExecView.{ExecView}
use Rattle.tb_rowkey.specs.Promise.Columns.{row_count, kinds, fields_at, keys_at}
use Rattle.tb_rowkey.specs.Promise.RowKey.{rowkey, key_row}
use Rattle.tb_sorted.specs.Promise.Columns.{first_values, sizes_by}
use Rattle.tb_sorted.specs.Promise.Path.{are_ordered, asks_nothing, is_merge_key, takes_path_by}
use Rattle.tb_hash.specs.Promise.Hashing.{value_plan}
use Rattle.tb_pairs.specs.Promise.Trace.{hash, merge, plain, has_long_row, lacks_keys, hashed_kind, hashed_values, trace_of}
use Rattle.tb_join.specs.Promise.Traced.{named_trace}
use Rattle.tb_request.specs.Columns.{relaid_column}

-- ---- the key columns

found_unlaid : (n : Name) (cs : List Col) → found n (map relaid_column cs) ≡ option_map relaid_column (found n cs)
found_unlaid n [] = refl
found_unlaid n (c ∷ cs) = at (same_name c.name n) (found_unlaid n cs)
  where
    at : (b : Bool) → found n (map relaid_column cs) ≡ option_map relaid_column (found n cs) → cond b (Some (relaid_column c)) (found n (map relaid_column cs)) ≡ option_map relaid_column (cond b (Some c) (found n cs))
    at true e = refl
    at false e = e

one_more : (o : Option Col) (cs : List Col) → cons_option (option_map relaid_column o) (map relaid_column cs) ≡ map relaid_column (cons_option o cs)
one_more None cs = refl
one_more (Some c) cs = refl

selected_unlaid : (ns : List Name) (cs : List Col) → selected_columns ns (map relaid_column cs) ≡ map relaid_column (selected_columns ns cs)
selected_unlaid [] cs = refl
selected_unlaid (n ∷ ns) cs = (λ t. cons_option (found_unlaid n cs t) (selected_unlaid ns cs t)) ∙ one_more (found n cs) (selected_columns ns cs)

-- ---- what is looked at of them

count_unlaid : (cs : List Col) → row_count (map relaid_column cs) ≡ row_count cs
count_unlaid [] = refl
count_unlaid (c ∷ cs) = refl

kinds_unlaid : (cs : List Col) → kinds (map relaid_column cs) ≡ kinds cs
kinds_unlaid [] = refl
kinds_unlaid (c ∷ cs) = ap (λ (ks : List Kind). c.kind ∷ ks) (kinds_unlaid cs)

fields_unlaid : (cs : List Col) (i : ℕ) → fields_at (map relaid_column cs) i ≡ fields_at cs i
fields_unlaid [] i = refl
fields_unlaid (c ∷ cs) i = ap (λ (vs : List Datum). slice_index_or (values c) i null ∷ vs) (fields_unlaid cs i)

long_unlaid : (cs : List Col) → has_long_row (map relaid_column cs) ≡ has_long_row cs
long_unlaid cs = λ t. list_any (λ i. not (nat_lt (length (rowkey (kinds_unlaid cs t) (fields_unlaid cs i t))) (2 ^ 32))) (row_numbers (count_unlaid cs t))

lacks_unlaid : (ls rs : List Col) → lacks_keys (map relaid_column ls) (map relaid_column rs) ≡ lacks_keys ls rs
lacks_unlaid ls rs = λ t. nat_lt 1 (length-map ls relaid_column t) && (long_unlaid ls t || long_unlaid rs t)

keys_unlaid : (cs : List Col) (nulls : ℕ → Bool) → keys_at (map relaid_column cs) nulls ≡ keys_at cs nulls
keys_unlaid cs nulls = λ t. map (λ i. key_row (kinds_unlaid cs t) nulls (fields_unlaid cs i t)) (row_numbers (count_unlaid cs t))

first_unlaid : (cs : List Col) → first_values (map relaid_column cs) ≡ first_values cs
first_unlaid [] = refl
first_unlaid (c ∷ cs) = refl

kind_unlaid : (cs : List Col) → hashed_kind (map relaid_column cs) ≡ hashed_kind cs
kind_unlaid [] = refl
kind_unlaid (c ∷ []) = refl
kind_unlaid (c ∷ d ∷ cs) = refl

hashed_unlaid : (nulls : ℕ → Bool) (cs : List Col) → hashed_values nulls (map relaid_column cs) ≡ hashed_values nulls cs
hashed_unlaid nulls [] = refl
hashed_unlaid nulls (c ∷ []) = refl
hashed_unlaid nulls (c ∷ d ∷ cs) = keys_unlaid (c ∷ d ∷ cs) nulls

ordered_unlaid : (how : JoinType) (exec : ExecView) (l r : Col) → are_ordered how exec (relaid_column l) (relaid_column r) ≡ are_ordered how exec l r
ordered_unlaid Inner exec l r = refl
ordered_unlaid Left exec l r = refl
ordered_unlaid Right exec l r = refl
ordered_unlaid Full exec l r = refl
ordered_unlaid Semi exec l r = refl
ordered_unlaid Anti exec l r = refl

path_unlaid : (how : JoinType) (asked : JoinValidation) (exec : ExecView) (ls rs : List Col) → takes_path_by how asked exec (map relaid_column ls) (map relaid_column rs) ≡ takes_path_by how asked exec ls rs
path_unlaid how asked exec [] rs = refl
path_unlaid how asked exec (l ∷ []) [] = refl
path_unlaid how asked exec (l ∷ []) (r ∷ []) = ap (λ b. asks_nothing asked && b && is_merge_key l && is_merge_key r) (ordered_unlaid how exec l r)
path_unlaid how asked exec (l ∷ []) (r ∷ s ∷ rs) = refl
path_unlaid how asked exec (l ∷ k ∷ ls) rs = refl

-- ---- the trace

keyed_unlaid : (how : JoinType) (args : JoinArgs) (exec : ExecView) (ls rs : List Col) → trace_of how args exec (map relaid_column ls) (map relaid_column rs) ≡ trace_of how args exec ls rs
keyed_unlaid how args exec ls rs = λ t.
    cond (lacks_unlaid ls rs t) plain
    (cond (path_unlaid how args.validation exec ls rs t) (merge (sizes_by how (first_unlaid ls t) (first_unlaid rs t)))
    (hash (value_plan exec how (kind_unlaid ls t) (hashed_unlaid (flag_at args.join_nulls) ls t) (hashed_unlaid (flag_at args.join_nulls) rs t))))

pub trace_unlaid : (ls rs : List Col) (left_on right_on : List Name) (args : JoinArgs) (exec : ExecView)
    → named_trace (map relaid_column ls) (map relaid_column rs) left_on right_on args exec ≡ named_trace ls rs left_on right_on args exec
trace_unlaid ls rs left_on right_on args exec =
    (λ t. trace_of args.how args exec (selected_unlaid left_on ls t) (selected_unlaid right_on rs t))
    ∙ keyed_unlaid args.how args exec (selected_columns left_on ls) (selected_columns right_on rs)
