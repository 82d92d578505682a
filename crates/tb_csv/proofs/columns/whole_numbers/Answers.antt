use Rattle.std.proofs.Common.{⊎_elim}
use Rattle.tb_csv.specs.declared.field_type.FieldType.TheVariants.{Int64}
use Rattle.tb_csv.specs.Fields.{fields_in}
use Rattle.tb_csv.proofs.FieldWalks.{fault_none, fault_some}
use Rattle.tb_csv.proofs.columns.whole_numbers.Goals as goal

pub returns-in-Ok : goal.returns-in-Ok
returns-in-Ok c = (fault_none c.args.name.now Int64 1 (fields_in c.args.fields) c.in-Ok.ensures.settles, c.in-Ok.ensures.column)

pub returns-in-Err-NotOfType : goal.returns-in-Err-NotOfType
returns-in-Err-NotOfType c = ⊎_elim (λ m. absurd (cc m)) (λ h. fault_some c.args.name.now Int64 1 (fields_in c.args.fields) _ h) c.in-Err-NotOfType.ensures.settles
