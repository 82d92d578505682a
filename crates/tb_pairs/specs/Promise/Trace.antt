-- How a join goes: which path its keys take, and what is built or merged of them.
use Rattle.std.specs.Prelude.{◌≡◌, ◌+◌, ◌*◌, ◌^◌, ◌≤◌, ⊤, ℕ, Bool, ◌&&◌, ◌||◌, not, nat_lt, if◌then◌else◌, List, [], ◌∷◌, length}
use Rattle.std.specs.List.{list_any}
use Rattle.tb_value.specs.Promise.Datum.{Datum}
use Rattle.tb_value.specs.Promise.Kind.{Kind}
use Rattle.tb_value.specs.Promise.Kind as kind
use Rattle.tb_value.specs.Promise.Pairs.{row_numbers}
use Rattle.tb_chunk.specs.Promise.Col.{Col, values}
use Rattle.tb_chunk.specs.Lent.{lent_columns}
use Rattle.tb_frame.specs.declared.args.JoinArgs.{JoinArgs}
use Rattle.tb_frame.specs.declared.args.JoinType.{JoinType}
use Rattle.tb_frame.specs.Promise.Join.{flag_at, listing}
use Rattle.tb_pool.specs.Promise.ExecView.{ExecView}
use Rattle.tb_keys.specs.Asked.{asked_request}
use Rattle.tb_keys.specs.declared.request.LentRequest.{LentRequest}
use Rattle.tb_sorted.specs.Promise.Columns.{first_values, sizes_by}
use Rattle.tb_sorted.specs.Promise.Keys.{MergeSizes}
use Rattle.tb_sorted.specs.Promise.Listed.{sizes_of}
use Rattle.tb_sorted.specs.Listed.{IsListedIn}
use Rattle.tb_sorted.specs.Promise.Path.{takes_path_by}
use Rattle.tb_build.specs.Promise.Plan.{BuiltView}
use Rattle.tb_hash.specs.Promise.Hashing.{IsLetIn, value_plan}
use Rattle.tb_rowkey.specs.Promise.Columns.{keys_at, row_bytes, row_count}
use Rattle.tb_pairs.specs.declared.trace.JoinTrace.{JoinTrace}
use Rattle.tb_pairs.specs.declared.trace.JoinTrace.TheVariants as rust
use Rattle.tb_pairs.specs.declared.trace.FoundPairs.{FoundPairs}

-- what is built, how much is merged, or that the fields are compared one by one
pub data Trace : Type 0 where
  hash : BuiltView → Trace
  merge : MergeSizes → Trace
  plain : Trace

-- the fields of some row have 2^32 bytes or more, which no key has
abbrev pub has_long_row : List Col → Bool
has_long_row cs =
    list_any (λ i. not (nat_lt (length (row_bytes cs i)) (2 ^ 32))) (row_numbers (row_count cs))

-- there are several keys, and some row of either side is too long for one
abbrev pub lacks_keys : List Col → List Col → Bool
lacks_keys ls rs = nat_lt 1 (length ls) && (has_long_row ls || has_long_row rs)

-- one key is hashed as it is, and of several the key of each row
abbrev pub hashed_kind : List Col → Kind
hashed_kind (c ∷ []) = c.kind
hashed_kind _ = kind.binary

abbrev pub hashed_values : (ℕ → Bool) → List Col → List Datum
hashed_values nulls (c ∷ []) = values c
hashed_values nulls cs = keys_at cs nulls

-- the trace of a join by these keys: their flags and `exec` decide the path, and `exec` into how many parts the built side is cut
abbrev pub trace_of : JoinType → JoinArgs → ExecView → List Col → List Col → Trace
trace_of how args exec ls rs =
    if lacks_keys ls rs then plain
    else if takes_path_by how args.validation exec ls rs then merge (sizes_by how (first_values ls) (first_values rs))
    else hash
    (value_plan exec how (hashed_kind ls) (hashed_values (flag_at args.join_nulls) ls)
    (hashed_values (flag_at args.join_nulls) rs))

-- what a trace tells
abbrev pub trace_told : JoinTrace → Trace
trace_told (rust.Hash built) = hash built
trace_told (rust.Merge merged) = merge (sizes_of merged)
trace_told rust.Plain = plain

-- a merge of l left and r right keys made at most 2 * l + r comparisons
abbrev pub IsCheap : JoinTrace → Type 0
IsCheap (rust.Merge merged) = merged.comparisons ≤ 2 * merged.left_len + merged.right_len
IsCheap _ = ⊤

-- each part that a trace tells, if it is of hash tables, has been let in
abbrev pub ArePartsLetIn : (ℕ → Type 0) → JoinTrace → Type 0
ArePartsLetIn lets_in (rust.Hash built) = IsLetIn lets_in built
ArePartsLetIn lets_in (rust.Merge merged) = ⊤
ArePartsLetIn lets_in rust.Plain = ⊤

-- a trace tells this, and is of a cheap merge, if of one
pub record IsTraced (exec : ExecView) (due : Trace) (trace : JoinTrace) : Type 0 where
  pub tells : trace_told trace ≡ due
  pub cheap : IsCheap trace

-- the trace of a request
abbrev pub requested_trace : LentRequest → ExecView → Trace
requested_trace r exec =
    trace_of r.how r.args.now exec (lent_columns r.left_keys.now) (lent_columns r.right_keys.now)

-- the pairs that a request lists, in an order that is said, and its trace
pub record IsFound (r : LentRequest) (exec : ExecView) (found : FoundPairs) : Type 0 where
  pub listed : IsListedIn (listing (asked_request r)) found.listed
  pub traced : IsTraced exec (requested_trace r exec) found.trace
