-- The trace of a request.
use Rattle.std.proofs.Common.{◌≡◌, ◌<◌, ◌∙◌, Bool, true, false, cond, not, ◌&&◌, ◌||◌, List, [], ◌∷◌, length, refl, ap, sym, subst, arith}
use Rattle.std.specs.Prelude.{nat_lt, ◌+◌, ◌*◌, ◌^◌, ◌≤◌}
use Rattle.std.proofs.lemmas.Bool.{ltb-true, lt-ltb, not-false}
use Rattle.std.proofs.lemmas.List.{length-map}
use Rattle.tb_value.specs.Promise.Datum.{Datum}
use Rattle.tb_value.specs.Promise.Kind.{Kind}
use Rattle.tb_value.specs.Promise.Kind as kind
use Rattle.tb_value.specs.declared.index.JoinPair.{JoinPair}
use Rattle.tb_chunk.specs.Promise.Col.{Col, values}
use Rattle.tb_chunk.specs.Lent.{lent_columns}
use Rattle.tb_frame.specs.declared.args.JoinArgs.{JoinArgs}
use Rattle.tb_frame.specs.declared.args.JoinType.{JoinType}
use Rattle.tb_frame.specs.Promise.Join.{flag_at, listing}
use Rattle.tb_pool.specs.Promise.ExecView.{ExecView}
use Rattle.tb_keys.specs.Asked.{asked_request}
use Rattle.tb_keys.specs.declared.request.LentRequest.{LentRequest}
use Rattle.tb_merge.specs.Promise.MergedView.{MergedView}
use Rattle.tb_sorted.specs.Promise.Columns.{first_values, sizes_by}
use Rattle.tb_sorted.specs.Promise.Keys.{MergeSizes}
use Rattle.tb_sorted.specs.Listed.{IsListedIn, IsMergeWithin, requested_sizes}
use Rattle.tb_sorted.specs.Promise.Path.{takes_key_path, takes_path_by}
use Rattle.tb_sorted.specs.Path.{takes_merge_path}
use Rattle.tb_build.specs.Promise.Plan.{BuiltView}
use Rattle.tb_hash.specs.Promise.Hashing.{builds_left, value_code, value_plan}
use Rattle.tb_hash.specs.Probing.{IsProbed}
use Rattle.tb_rowkey.specs.Promise.Columns.{keys_at, row_bytes, row_count}
use Rattle.tb_rowkey.specs.Columns.{AreShortRows}
use Rattle.tb_pairs.specs.Promise.Trace.{IsFound, IsTraced, Trace, hash, has_long_row, hashed_kind, hashed_values, lacks_keys, merge, plain, requested_trace, trace_of}
use Rattle.tb_pairs.specs.declared.trace.FoundPairs.{FoundPairs}
use Rattle.tb_pairs.specs.declared.trace.JoinTrace.TheVariants.{Hash, Merge, Plain}
use Rattle.tb_pairs.proofs.Twins.{any_false, any_none}

-- SHORT ROWS

pub short_none : (cs : List Col) → AreShortRows cs → has_long_row cs ≡ false
short_none cs short = any_none (λ i. not (nat_lt (length (row_bytes cs i)) (2 ^ 32))) (row_count cs) (λ i low. ap not (lt-ltb (length (row_bytes cs i)) (2 ^ 32) (short i low)))

pub none_short : (cs : List Col) → has_long_row cs ≡ false → AreShortRows cs
none_short cs none = λ i low. ltb-true (length (row_bytes cs i)) (2 ^ 32) (not-false (nat_lt (length (row_bytes cs i)) (2 ^ 32)) (any_false (λ i. not (nat_lt (length (row_bytes cs i)) (2 ^ 32))) (row_count cs) none i low))

-- PATHS

module _ (how : JoinType) (args : JoinArgs) (exec : ExecView) where
  pub merged_trace : (ls rs : List Col) → takes_path_by how args.validation exec ls rs ≡ true → trace_of how args exec ls rs ≡ merge (sizes_by how (first_values ls) (first_values rs))
  merged_trace [] rs e = absurd (cc)
  merged_trace (l ∷ m ∷ ls) rs e = absurd (cc)
  merged_trace (l ∷ []) [] e = absurd (cc)
  merged_trace (l ∷ []) (r ∷ s ∷ rs) e = absurd (cc)
  merged_trace (l ∷ []) (r ∷ []) e = ap (λ (b : Bool). cond b (merge (sizes_by how (values l) (values r))) (hash (value_plan exec how l.kind (values l) (values r)))) e

  pub one_key_trace : (l r : Col) → takes_key_path how args.validation exec l r ≡ false → trace_of how args exec (l ∷ []) (r ∷ []) ≡ hash (value_plan exec how l.kind (values l) (values r))
  one_key_trace l r e = ap (λ (b : Bool). cond b (merge (sizes_by how (values l) (values r))) (hash (value_plan exec how l.kind (values l) (values r)))) e

  abbrev row_plan : List Col → List Col → BuiltView
  row_plan ls rs = value_plan exec how kind.binary (keys_at ls (flag_at args.join_nulls)) (keys_at rs (flag_at args.join_nulls))

  pub row_key_trace : (ls rs : List Col) → 1 < length ls → length ls ≡ length rs → AreShortRows ls → AreShortRows rs → trace_of how args exec ls rs ≡ hash (row_plan ls rs)
  row_key_trace [] rs high many left right = absurd (omega arith)
  row_key_trace (l ∷ []) rs high many left right = absurd (omega arith)
  row_key_trace (l ∷ m ∷ ls) [] high many left right = absurd (omega arith)
  row_key_trace (l ∷ m ∷ ls) (r ∷ []) high many left right = absurd (omega arith)
  row_key_trace (l ∷ m ∷ ls) (r ∷ s ∷ rs) high many left right =
      λ t. cond (lt-ltb 1 (length (l ∷ m ∷ ls)) high t && (short_none (l ∷ m ∷ ls) left t || short_none (r ∷ s ∷ rs) right t)) plain (hash (row_plan (l ∷ m ∷ ls) (r ∷ s ∷ rs)))

  pub plain_trace : (ls rs : List Col) → lacks_keys ls rs ≡ true → trace_of how args exec ls rs ≡ plain
  plain_trace ls rs long = ap (λ (b : Bool). cond b plain (cond (takes_path_by how args.validation exec ls rs) (merge (sizes_by how (first_values ls) (first_values rs))) (hash (value_plan exec how (hashed_kind ls) (hashed_values (flag_at args.join_nulls) ls) (hashed_values (flag_at args.join_nulls) rs))))) long

either_long : (a b : Bool) → (a ≡ false → b ≡ false → ⊥) → (a || b) ≡ true
either_long true b apart = refl
either_long false true apart = refl
either_long false false apart = absurd (apart refl refl)

-- several keys, and not both sides short
pub long_key : (ls rs : List Col) → 1 < length ls → (AreShortRows ls → AreShortRows rs → ⊥) → lacks_keys ls rs ≡ true
long_key ls rs high apart = λ t. lt-ltb 1 (length ls) high t && either_long (has_long_row ls) (has_long_row rs) (λ a b. apart (none_short ls a) (none_short rs b)) t

pub one_key_traced : (r : LentRequest) (exec : ExecView) (a b : Col) → lent_columns r.left_keys.now ≡ a ∷ [] → lent_columns r.right_keys.now ≡ b ∷ [] → takes_merge_path r exec ≡ false
    → requested_trace r exec ≡ hash (value_plan exec r.how a.kind (values a) (values b))
one_key_traced r exec a b left right hashed =
    let here : takes_key_path r.how r.args.now.validation exec a b ≡ false = sym (λ t. takes_path_by r.how r.args.now.validation exec (left t) (right t)) ∙ hashed in
    ◌∙◌ {A = Trace} (λ t. trace_of r.how r.args.now exec (left t) (right t)) (one_key_trace r.how r.args.now exec a b here)

-- WHAT IS FOUND

module _ (r : LentRequest) (exec : ExecView) where
  -- by a merge
  pub merge_traced : (m : MergedView) → takes_merge_path r exec ≡ true → IsMergeWithin (requested_sizes r) m → IsTraced exec (requested_trace r exec) (Merge m)
  merge_traced m taken h = record {
    tells = ap merge h.sizes ∙ sym (merged_trace r.how r.args.now exec (lent_columns r.left_keys.now) (lent_columns r.right_keys.now) taken);
    cheap = subst (λ (s : MergeSizes). m.comparisons ≤ 2 * s.left_len + s.right_len) (sym h.sizes) h.cost;
  }

  -- by a hash table
  pub hash_found : (list : List JoinPair) (t : Kind) (us vs : List Datum) (probed : List JoinPair) (built : BuiltView) (found : FoundPairs)
      → list ≡ listing (asked_request r) → requested_trace r exec ≡ hash (value_plan exec r.how t us vs)
      → IsProbed r.how (builds_left r.how (length us) (length vs)) list probed → built ≡ value_plan exec r.how t us vs
      → ((ps : List JoinPair) → IsProbed r.how built.left_built ps probed → IsListedIn ps found.listed) → found.trace ≡ Hash built → IsFound r exec found
  hash_found list t us vs probed built found is due h plan_is listed traced =
      let side : built.left_built ≡ builds_left r.how (length us) (length vs) = ap (λ (b : BuiltView). b.left_built) plan_is ∙ λ i. builds_left r.how (length-map us (value_code t) i) (length-map vs (value_code t) i) in
      record {
        listed = subst (λ (ps : List JoinPair). IsListedIn ps found.listed) is (listed list (subst (λ (s : Bool). IsProbed r.how s list probed) (sym side) h));
        traced = subst (IsTraced exec (requested_trace r exec)) (sym traced) (record { tells = ap hash plan_is ∙ sym due; cheap = tt });
      }

  -- field by field
  pub plain_found : (found : FoundPairs) → IsListedIn (listing (asked_request r)) found.listed → found.trace ≡ Plain → lacks_keys (lent_columns r.left_keys.now) (lent_columns r.right_keys.now) ≡ true → IsFound r exec found
  plain_found found listed traced long = record {
    listed = listed;
    traced = subst (IsTraced exec (requested_trace r exec)) (sym traced) (record { tells = sym (plain_trace r.how r.args.now exec (lent_columns r.left_keys.now) (lent_columns r.right_keys.now) long); cheap = tt });
  }
