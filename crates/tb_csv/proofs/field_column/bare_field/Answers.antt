use Rattle.std.proofs.Common.{◌∙◌, [], None, ap, arith, false, sym}
use Rattle.std.proofs.lemmas.List.{get_or-map}
use Rattle.csv.specs.Records.{fields_of}
use Rattle.tb_csv.specs.Promise.Records.{field}
use Rattle.tb_csv.proofs.RecordWalks.{found, past}
use Rattle.tb_csv.proofs.field_column.bare_field.Goals as goal

pub unreachable-requires : goal.unreachable-requires
unreachable-requires c =
    let end = past (fields_of c.args.texts.now) _ (rw c.in_default.is at c.get.ensures.value) in
    omega (arith, end, c.requires)

pub returns : goal.returns
returns c =
    let fs = fields_of c.args.texts.now in
    c.field.ensures ∙ ap (field false) (sym (found fs c.args.row _ [] (rw c.in-Some.is at c.get.ensures.value))) ∙ sym (get_or-map (field false) fs c.args.row [] None c.requires)
