-- When keys are merged and not hashed.
use Rattle.std.specs.Prelude.{◌≡◌, Bool, true, if◌then◌else◌}
use Rattle.tb_chunk.specs.Promise.Col.{Col}
use Rattle.tb_chunk.specs.Lent.{lent_columns}
use Rattle.tb_frame.specs.declared.args.Direction.{Direction}
use Rattle.tb_frame.specs.declared.args.Direction.TheVariants.{Free, ByLeft}
use Rattle.tb_frame.specs.declared.args.JoinType.{JoinType}
use Rattle.tb_pool.specs.Promise.ExecView.{ExecView}
use Rattle.tb_keys.specs.declared.request.LentRequest.{LentRequest}
use Rattle.tb_sorted.specs.declared.path.SortedFirst.{SortedFirst}
use Rattle.tb_sorted.specs.declared.path.SortedFirst.TheVariants as the
use Rattle.tb_sorted.specs.Promise.Path.{are_ordered, is_flagged, is_merge_key, takes_path_by}

-- whether the keys of a request are merged
abbrev pub takes_merge_path : LentRequest → ExecView → Bool
takes_merge_path r exec = takes_path_by r.how r.args.now.validation exec
    (lent_columns r.left_keys.now) (lent_columns r.right_keys.now)

-- two keys of one type that a join of a kind merges: both can be, and they have the order for it
pub record AreKeysToMerge (how : JoinType) (exec : ExecView) (l r : Col) : Type 0 where
  pub same : l.kind ≡ r.kind
  pub left : is_merge_key l ≡ true
  pub right : is_merge_key r ≡ true
  pub ordered : are_ordered how exec l r ≡ true

-- which of two such keys is sorted first: one that isn't flagged
abbrev pub sorted_first : Col → Col → SortedFirst
sorted_first left right = (if is_flagged left.flag
    then (if is_flagged right.flag then the.Neither else the.Right)
    else the.Left)

-- the order in which the pairs stand then
abbrev pub order_after : SortedFirst → Direction
order_after the.Neither = ByLeft
order_after the.Right = ByLeft
order_after the.Left = Free
