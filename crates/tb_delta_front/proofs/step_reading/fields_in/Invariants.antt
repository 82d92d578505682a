use Rattle.tb_tree.specs.View.{view}
use Rattle.tb_value.specs.See.{data_of}
use Rattle.tb_frame.specs.Promise.Table.{schema_of, table_of}
use Rattle.tb_json.proofs.ValueWalks.{TypedSoFar}
use Rattle.tb_delta_front.proofs.StepRows.{IsRead}
use Rattle.tb_delta_front.proofs.step_reading.fields_in.Given as goal

-- the columns that are left decide, and the fields so far are of their types
abbrev pub invariant-loop-column : goal.invariant-loop-column
invariant-loop-column l = record {
  read : IsRead l.line (view l.row) l.columns (data_of l.fields.items) l.column-index;
  typed : TypedSoFar (schema_of (table_of l.columns)) (data_of l.fields.items) l.column-index;
}
