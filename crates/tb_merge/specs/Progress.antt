-- How far a merge is.
use Rattle.std.specs.Prelude.{◌≡◌, ◌+◌, ◌*◌, ◌<◌, ◌≤◌, ℤ, Bool, false, List, length}
use Rattle.tb_value.specs.Promise.Pairs.{row_numbers}
use Rattle.tb_value.specs.declared.index.JoinPair.{JoinPair}
use Rattle.tb_value.specs.declared.limits.TheConstants.{MAX_ROWS}
use Rattle.tb_merge.specs.Keys.{key_at}
use Rattle.tb_merge.specs.RowPairs.{pairs_of}
use Rattle.tb_merge.specs.Runs.{IsCursor}
use Rattle.tb_merge.specs.declared.by_portion.Progress.{Progress}

-- The first left rows are merged: their pairs are listed and those of rows that match counted, and the cursor is where
-- the next row's right rows are looked for. That took at most two comparisons for each of them, and one for each right
-- row passed
pub record IsMergedTo (left right : List ℤ) (keep : Bool) (pairs : List JoinPair)
    (at : Progress) : Type 0 where
  pub within : at.row ≤ length left
  pub listed : pairs ≡ pairs_of left right keep (row_numbers at.row)
  pub room : length pairs ≤ MAX_ROWS
  pub matched : at.matched ≡ length (pairs_of left right false (row_numbers at.row))
  pub few : at.matched ≤ length pairs
  pub passed : at.cursor.end ≤ length right
  pub cursor : at.row < length left
      → IsCursor right (key_at left at.row) at.cursor.start at.cursor.end
  pub cheap : at.cursor.comparisons ≤ 2 * at.row + at.cursor.end
