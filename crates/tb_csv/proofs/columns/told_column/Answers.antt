use Rattle.tb_csv.specs.Fields.{fields_in}
use Rattle.tb_csv.specs.Promise.Types.{told_type}
use Rattle.tb_csv.proofs.FieldWalks.{all_none, told_numbers}
use Rattle.tb_csv.proofs.columns.told_column.Goals as goal

pub returns-in-Some-clause-settles : goal.returns-in-Some-clause-settles
returns-in-Some-clause-settles c =
    let fs = fields_in c.args.fields in
    let h = rw c.in-Some.is at c.in_ok-column.ensures in
    all_none c.args.name.now (told_type fs) 1 fs (rw (told_numbers fs h.0) h.0)
