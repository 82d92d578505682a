use Rattle.std.proofs.Common.{◌≡◌, length, take, true}
use Rattle.std.specs.List.{flat_map, list_all}
use Rattle.tb_csv.specs.Promise.Types.{is_of}
use Rattle.tb_csv.specs.Read.{run_column}
use Rattle.tb_csv.proofs.cells.are_of.Given as goal

abbrev pub invariant-loop-run : goal.invariant-loop-run
invariant-loop-run l =
    list_all (is_of l.field_type) (flat_map (run_column (length l.fields.records.now.names.items) l.fields.column) (take l.run-index l.run-items)) ≡ true
