use Rattle.std.proofs.Common.{◌<◌, ◌≤◌, ◌∙◌, ap, arith, get_or, length, None, refl, sym}
use Rattle.std.specs.List.{list_all}
use Rattle.std.proofs.lemmas.List.{take_all}
use Rattle.tb_chunk.specs.Chunk.{or_null}
use Rattle.tb_csv.specs.Fields.{part_fields}
use Rattle.tb_csv.specs.Promise.Types.{is_of}
use Rattle.tb_csv.proofs.ColumnWalks.{part_height}
use Rattle.tb_csv.proofs.FieldWalks.{all_fails, all_more, read_is}
use Rattle.tb_csv.proofs.cells.are_cells.Goals as goal

pub returns-then-is_none : goal.returns-then-is_none
returns-then-is_none g c =
    let fs = part_fields c.args.part in
    let low : c.loop-row.row < length fs = omega (arith, part_height c.args.part, c.loop-row-test.true) in
    sym (all_fails c.args.field_type fs c.loop-row.row (get_or fs c.loop-row.row None) low refl (read_is (or_null g.N.Cell.shows) c.args.field_type _ c.cell_at.result c.cell_at.ensures.value ∙ c.if-is_none.ensures))

pub loop-row-preserved : goal.loop-row-preserved
loop-row-preserved g c =
    let fs = part_fields c.args.part in
    let low : c.loop-row.row < length fs = omega (arith, part_height c.args.part, c.loop-row-test.true) in
    all_more c.args.field_type fs c.loop-row.row (get_or fs c.loop-row.row None) low refl (read_is (or_null g.N.Cell.shows) c.args.field_type _ c.cell_at.result c.cell_at.ensures.value ∙ c.if-is_none.ensures) c.loop-row.invariant

pub returns : goal.returns
returns g c =
    let fs = part_fields c.args.part in
    let past : length fs ≤ c.loop-row.row = omega (arith, part_height c.args.part) in
    sym (ap (list_all (is_of c.args.field_type)) (sym (take_all c.loop-row.row fs past)) ∙ c.loop-row.invariant)
