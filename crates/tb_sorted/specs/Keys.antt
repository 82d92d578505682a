-- Keys as the whole numbers that they are.
use Rattle.std.specs.Prelude.{ℤ, Bool, false, if◌then◌else◌, ◌≤◌, List, length, IsSorted}
use Rattle.std.specs.Ordering.{int_cmp}
use Rattle.tb_value.specs.declared.error.ComputeCause.TheVariants.{TooManyRows}
use Rattle.tb_value.specs.declared.error.PolarsError.{PolarsError}
use Rattle.tb_value.specs.declared.error.PolarsError.TheVariants as error
use Rattle.tb_value.specs.declared.index.JoinPair.{JoinPair}
use Rattle.tb_value.specs.declared.limits.TheConstants.{MAX_ROWS}
use Rattle.tb_frame.specs.declared.args.JoinType.{JoinType}
use Rattle.tb_frame.specs.declared.args.JoinType.TheVariants.{Inner, Left}
use Rattle.tb_frame.specs.Promise.Join.{listing_of}
use Rattle.tb_merge.specs.Keys.{keys_match}
use Rattle.tb_merge.specs.declared.fault.MergeFault.{MergeFault}
use Rattle.tb_merge.specs.declared.fault.MergeFault.TheVariants as fault
use Rattle.tb_sorted.specs.Promise.Keys.{MergeSizes}

-- two lists of keys can be merged: both ascend, and neither is longer than a table
pub record AreListsToMerge (left right : List ℤ) : Type 0 where
  pub left_sorted : IsSorted int_cmp left
  pub right_sorted : IsSorted int_cmp right
  pub left_few : length left ≤ MAX_ROWS
  pub right_few : length right ≤ MAX_ROWS

-- the kind of a join that keeps the left rows without a match, or that doesn't
abbrev pub kind_of_merge : Bool → JoinType
kind_of_merge keep = (if keep then Left else Inner)

-- the listing of keys
abbrev pub number_listing : Bool → List ℤ → List ℤ → List JoinPair
number_listing keep left right =
    listing_of (kind_of_merge keep) (length left) (length right) (keys_match left right)

-- the sizes of a merge of keys
abbrev pub number_sizes : List ℤ → List ℤ → MergeSizes
number_sizes left right = record
    { left_len = length left; right_len = length right; pairs = length (number_listing false left right) }

-- the refusal that a fault of a merge is
abbrev pub refusal_of : MergeFault → PolarsError
refusal_of fault.TooManyRows = error.ComputeError TooManyRows
refusal_of fault.OutOfMemory = error.OutOfMemory
