use Rattle.std.proofs.Common.{map}
use Rattle.tb_tree.specs.View.{view}
use Rattle.tb_value.specs.See.{datum}
use Rattle.tb_json.proofs.ValueWalks.{FieldsSoFar, TypedSoFar}
use Rattle.tb_delta_request.specs.Lent.{column_part}
use Rattle.tb_delta_request.proofs.rows.row_of.Given as goal

-- the first values are read, and of their types
abbrev pub invariant-loop-place : goal.invariant-loop-place
invariant-loop-place l = record {
  read : FieldsSoFar (map column_part l.columns) (map view l.row) (map datum l.values.items) l.place;
  typed : TypedSoFar (map column_part l.columns) (map datum l.values.items) l.place;
}
