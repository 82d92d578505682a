use Rattle.std.proofs.Common.{◌<◌, ◌≤◌, ◌∙◌, ap, arith, length, sym}
use Rattle.std.specs.List.{list_all}
use Rattle.std.proofs.lemmas.List.{take_all}
use Rattle.tb_csv.specs.Fields.{part_fields}
use Rattle.tb_csv.specs.Read.{lent_field}
use Rattle.tb_csv.specs.Promise.Types.{is_of}
use Rattle.tb_csv.specs.declared.field_type.FieldType.TheVariants as field
use Rattle.tb_csv.proofs.ColumnWalks.{part_height}
use Rattle.tb_csv.proofs.FieldWalks.{all_fails, all_more}
use Rattle.tb_csv.proofs.cells.are_short.Goals as goal

pub returns-then-not-is_short : goal.returns-then-not-is_short
returns-then-not-is_short c =
    let fs = part_fields c.args.part in
    let low : c.loop-row.row < length fs = omega (arith, part_height c.args.part, c.loop-row-test.true) in
    sym (all_fails field.String fs c.loop-row.row (lent_field c.text_at.result) low c.text_at.ensures (sym c.if-not-is_short.ensures))

pub loop-row-preserved : goal.loop-row-preserved
loop-row-preserved c =
    let fs = part_fields c.args.part in
    let low : c.loop-row.row < length fs = omega (arith, part_height c.args.part, c.loop-row-test.true) in
    all_more field.String fs c.loop-row.row (lent_field c.text_at.result) low c.text_at.ensures (sym c.if-not-is_short.ensures) c.loop-row.invariant

pub returns : goal.returns
returns c =
    let fs = part_fields c.args.part in
    let past : length fs ≤ c.loop-row.row = omega (arith, part_height c.args.part) in
    sym (ap (list_all (is_of field.String)) (sym (take_all c.loop-row.row fs past)) ∙ c.loop-row.invariant)
