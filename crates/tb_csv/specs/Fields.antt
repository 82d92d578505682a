-- The fields of a column, as they are lent.
use Rattle.std.specs.Prelude.{List, length}
use Rattle.std.specs.List.{flat_map}
use Rattle.tb_csv.specs.Promise.Records.{Field}
use Rattle.tb_csv.specs.Read.{run_column}
use Rattle.tb_csv.specs.declared.lent.Fields.{Fields}
use Rattle.tb_csv.specs.declared.lent.RunColumn.{RunColumn}

-- the fields of a column of the rows of a run
abbrev pub part_fields : RunColumn → List Field
part_fields p = run_column p.width p.column p.run.now

-- the fields of a column, run by run
abbrev pub fields_in : Fields → List Field
fields_in f = flat_map (run_column (length f.records.now.names.items) f.column)
    f.records.now.runs.items
