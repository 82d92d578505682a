use Rattle.std.proofs.Common.{arith}
use Rattle.csv.specs.Records.{fields_of}
use Rattle.tb_csv.proofs.ReadRecords.{field_there}
use Rattle.tb_csv.proofs.RecordWalks.{past}
use Rattle.tb_csv.proofs.run.TextFields.get.Goals as goal

pub unreachable-requires : goal.unreachable-requires
unreachable-requires c =
    let end = past (fields_of c.args.self.now.fields) _ (rw c.in_default.is at c.get.ensures.value) in
    omega (arith, end, c.requires)

pub returns : goal.returns
returns c =
    field_there c.args.self.now.marks.items (fields_of c.args.self.now.fields) _ _ _ c.field.result c.deref.result.now
    (rw c.in-Some.is at c.get.ensures.value) c.deref.ensures.value c.mark_at.ensures c.field.ensures
