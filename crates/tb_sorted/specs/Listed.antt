-- Pairs of a listing, in an order that is said.
use Rattle.std.specs.Prelude.{◌≡◌, ◌+◌, ◌*◌, ◌≤◌, ℤ, Bool, false, if◌then◌else◌, List, length, Option, None, Result, IfOk, IsPermutation}
use Rattle.std.specs.declared.vec.Vec.{Vec}
use Rattle.tb_value.specs.Promise.Datum.{Datum}
use Rattle.tb_value.specs.Promise.Refusals.{first_cause}
use Rattle.tb_value.specs.Refusals.{Settles}
use Rattle.tb_value.specs.declared.error.PolarsError.{PolarsError}
use Rattle.tb_value.specs.declared.index.JoinPair.{JoinPair}
use Rattle.tb_chunk.specs.Lent.{lent_columns}
use Rattle.tb_frame.specs.declared.args.Direction.{Direction}
use Rattle.tb_frame.specs.declared.args.JoinType.{JoinType}
use Rattle.tb_frame.specs.Promise.Join.{Ascends}
use Rattle.tb_frame.specs.Promise.Refusal.{row_causes}
use Rattle.tb_pool.specs.Promise.ExecView.{ExecView}
use Rattle.tb_keys.specs.Asked.{asked_request}
use Rattle.tb_keys.specs.Causes.{too_many}
use Rattle.tb_keys.specs.declared.request.LentRequest.{LentRequest}
use Rattle.tb_merge.specs.Promise.MergedView.{MergedView}
use Rattle.tb_sorted.specs.Promise.Columns.{first_values, sizes_by, value_sizes}
use Rattle.tb_keys.specs.Promise.Listing.{value_listing}
use Rattle.tb_sorted.specs.Promise.Keys.{MergeSizes}
use Rattle.tb_sorted.specs.Keys.{kind_of_merge, number_listing, number_sizes}
use Rattle.tb_sorted.specs.Path.{takes_merge_path}
use Rattle.tb_sorted.specs.declared.pairs.DirectedPairs.{DirectedPairs}
use Rattle.tb_sorted.specs.declared.pairs.MergedPairs.{MergedPairs}
use Rattle.tb_sorted.specs.Promise.Listed.{sizes_of}

-- these are the pairs of the list, and they stand in the order that is said
pub record IsListedIn (list : List JoinPair) (found : DirectedPairs) : Type 0 where
  pub permutation : IsPermutation list found.pairs.items
  pub ascends : Ascends found.order found.pairs.items

-- a merge of these sizes, of l left and r right keys, that made at most 2 * l + r comparisons
pub record IsMergeWithin (due : MergeSizes) (merged : MergedView) : Type 0 where
  pub sizes : sizes_of merged ≡ due
  pub cost : merged.comparisons ≤ 2 * due.left_len + due.right_len

-- the pairs that two sides list, in this order, and the merge of the sides' sizes that gave them, unless the pairs are too many
pub record IsMerged {A X : Type 0} (list : List X → List X → List JoinPair)
    (sizes : List X → List X → MergeSizes) (order : Direction) (left right : List X)
    (answer : Result (Vec JoinPair A × MergedView) PolarsError) : Type 0 where
  pub settles : Settles answer (too_many (length (list left right)))
  pub pairs : IfOk answer (λ x. IsPermutation (list left right) x.0.items)
  pub ascends : IfOk answer (λ x. Ascends order x.0.items)
  pub merged : IfOk answer (λ x. IsMergeWithin (sizes left right) x.1)

-- two lists of keys are merged, and two columns by their values
abbrev pub AreKeysMerged : {A : Type 0} → Direction → Bool → List ℤ → List ℤ
    → Result (Vec JoinPair A × MergedView) PolarsError → Type 0
AreKeysMerged order keep left right answer =
    IsMerged (number_listing keep) number_sizes order left right answer

abbrev pub AreValuesMerged : {A : Type 0} → Direction → Bool → List Datum → List Datum
    → Result (Vec JoinPair A × MergedView) PolarsError → Type 0
AreValuesMerged order keep us vs answer =
    IsMerged (value_listing false (kind_of_merge keep)) value_sizes order us vs answer

-- the pairs of the list and the merge of these sizes that gave them, unless the cause refuses them
pub record AreMergedPairs (cause : Option PolarsError) (list : List JoinPair) (due : MergeSizes)
    (answer : Result MergedPairs PolarsError) : Type 0 where
  pub settles : Settles answer cause
  pub found : IfOk answer (λ m. IsListedIn list m.listed)
  pub merged : IfOk answer (λ m. IsMergeWithin due m.merged)

-- the pairs of two columns for a join of a kind
abbrev pub AreMergedPairsOf : JoinType → List Datum → List Datum → Result MergedPairs PolarsError
    → Type 0
AreMergedPairsOf how us vs answer =
    AreMergedPairs (too_many (length (value_listing false how us vs)))
    (value_listing false how us vs) (sizes_by how us vs) answer

-- the sizes of the merge of a request's keys
abbrev pub requested_sizes : LentRequest → MergeSizes
requested_sizes r = sizes_by r.how (first_values (lent_columns r.left_keys.now))
    (first_values (lent_columns r.right_keys.now))

-- the cause why a request is refused, where its keys are merged
abbrev pub merge_refusal : LentRequest → ExecView → Option PolarsError
merge_refusal r exec =
    (if takes_merge_path r exec then first_cause (row_causes (asked_request r)) else None)
