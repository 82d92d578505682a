-- The keys of the rows of both sides.
use Rattle.std.specs.Prelude.{◌≡◌, ℕ, List, map, Option}
use Rattle.tb_value.specs.Promise.Datum.{binary}
use Rattle.tb_chunk.specs.Chunk.{or_null}
use Rattle.tb_chunk.specs.Lent.{lent_columns}
use Rattle.tb_frame.specs.Promise.Join.{nulls_match}
use Rattle.tb_keys.specs.Asked.{asked_request}
use Rattle.tb_keys.specs.declared.request.LentRequest.{LentRequest}
use Rattle.tb_rowkey.specs.Columns.{AreShortRows}
use Rattle.tb_rowkey.specs.Promise.Columns.{keys_at}

-- these are the keys of a request's rows, none of which is too long for one
pub record AreRowKeysOf (r : LentRequest) (left right : List (Option (List ℕ))) : Type 0 where
  pub left_keys : map (or_null binary) left
      ≡ keys_at (lent_columns r.left_keys.now) (nulls_match (asked_request r))
  pub right_keys : map (or_null binary) right
      ≡ keys_at (lent_columns r.right_keys.now) (nulls_match (asked_request r))
  pub left_short : AreShortRows (lent_columns r.left_keys.now)
  pub right_short : AreShortRows (lent_columns r.right_keys.now)
