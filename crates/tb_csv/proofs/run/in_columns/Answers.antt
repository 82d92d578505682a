use Rattle.std.proofs.Common.{◌∙◌}
use Rattle.csv.specs.Records.{fields_of}
use Rattle.tb_csv.specs.Read.{text_fields}
use Rattle.tb_csv.proofs.HeldColumns.{columns_down, columns_full}
use Rattle.tb_csv.proofs.MarkedFields.{marked_length}
use Rattle.tb_csv.proofs.run.in_columns.Goals as goal

pub field_columns-requires : goal.field_columns-requires
field_columns-requires c = record { full = marked_length c.args.texts.marks.items (fields_of c.args.texts.fields) ∙ c.requires.full }

pub returns-in-Some : goal.returns-in-Some
returns-in-Some c =
    let flat = text_fields c.args.texts in
    let are = rw c.in-Some.is at c.in_ok-columns.ensures.fields in
    record {
      columns = columns_down c.args.width c.args.height flat c.in-Some.columns are;
      full = columns_full c.args.width c.args.height flat c.in-Some.columns are;
    }
