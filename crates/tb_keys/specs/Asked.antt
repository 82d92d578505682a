-- The requests that lent parts are.
use Rattle.std.specs.Prelude.{◌≡◌, ℕ, List, min, length}
use Rattle.std.specs.List.{filter_map}
use Rattle.tb_value.specs.Promise.Names.{Name}
use Rattle.tb_chunk.specs.Promise.Col.{Col}
use Rattle.tb_frame.specs.Promise.Frame.{selected_columns}
use Rattle.tb_frame.specs.Promise.Join.{Request, column_named}
use Rattle.tb_frame.specs.Join.{lent_request}
use Rattle.tb_frame.specs.Sides.{asking}
use Rattle.tb_frame.specs.Promise.Table.{height, table_of}
use Rattle.tb_chunk.specs.Lent.{lent_columns}
use Rattle.tb_keys.specs.Rows.{HasRows}
use Rattle.tb_keys.specs.declared.request.LentRequest.{LentRequest}
use Rattle.tb_keys.specs.declared.request.NamedRequest.{NamedRequest}

-- the request whose keys are lent, asked for its own kind, whichever the arguments name
abbrev pub asked_request : LentRequest → Request
asked_request r = asking r.how (record {
  left = table_of r.left.now;
  right = table_of r.right.now;
  left_on = r.left_on.now;
  right_on = r.right_on.now;
  left_keys = table_of (lent_columns r.left_keys.now);
  right_keys = table_of (lent_columns r.right_keys.now);
  args = r.args.now;
})

-- the request whose keys are named
abbrev pub asked_by_names : NamedRequest → Request
asked_by_names r = lent_request r.left.now r.right.now r.left_on.now r.right_on.now r.args.now

-- the keys are the columns of the names, and the kind is that of the arguments
abbrev pub IsByNames : LentRequest → Type 0
IsByNames r =
    asked_request r ≡ lent_request r.left.now r.right.now r.left_on.now r.right_on.now r.args.now

-- how many places both key lists have
abbrev pub place_count : LentRequest → ℕ
place_count r = min (length (table_of (lent_columns r.left_keys.now)))
    (length (table_of (lent_columns r.right_keys.now)))

-- the columns of these names, in the order of the names, each as long as the table is high
pub record AreKeysOf (cs : List Col) (names : List Name) (keys : List Col) : Type 0 where
  pub columns : keys ≡ selected_columns names cs
  pub of_names : table_of keys ≡ filter_map (column_named (table_of cs)) names
  pub rows : HasRows (height (table_of cs)) keys
