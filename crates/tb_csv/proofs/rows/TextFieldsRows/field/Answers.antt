use Rattle.std.proofs.Common.{arith}
use Rattle.csv.specs.Records.{fields_of}
use Rattle.tb_csv.proofs.MarkedFields.{marked_length}
use Rattle.tb_csv.proofs.rows.TextFieldsRows.field.Goals as goal

pub get-requires : goal.get-requires
get-requires c = omega (arith, c.requires, marked_length c.args.self.now.marks.items (fields_of c.args.self.now.fields))
