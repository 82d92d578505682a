use Rattle.std.proofs.Common.{◌≡◌}
use Rattle.tb_tree.specs.View.{view}
use Rattle.tb_frame.specs.Promise.Table.{names_of, schema_of, table_of}
use Rattle.tb_delta_front.specs.Promise.Steps.{unknown_field}
use Rattle.tb_delta_front.proofs.StepRows.{first_unknown}
use Rattle.tb_delta_front.proofs.step_reading.unknown_field.Given as goal

-- the members that are left decide
abbrev pub invariant-loop-name : goal.invariant-loop-name
invariant-loop-name l = unknown_field (schema_of (table_of l.side.columns.now)) (view l.row) ≡ first_unknown (names_of (table_of l.side.columns.now)) l.name-iterator
