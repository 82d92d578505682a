use Rattle.std.proofs.Common.{◌≡◌, take, true}
use Rattle.std.specs.List.{list_all}
use Rattle.tb_csv.specs.Fields.{part_fields}
use Rattle.tb_csv.specs.Promise.Types.{is_of}
use Rattle.tb_csv.proofs.cells.are_cells.Given as goal

abbrev pub invariant-loop-row : goal.invariant-loop-row
invariant-loop-row g l = list_all (is_of l.field_type) (take l.row (part_fields l.part)) ≡ true
