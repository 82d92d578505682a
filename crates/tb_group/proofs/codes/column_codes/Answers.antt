use Rattle.std.proofs.Common.{◌∙◌, ◌∷◌, [], ap}
use Rattle.tb_build.specs.Plan.{codes_of}
use Rattle.tb_frame.specs.Promise.Table.{plain_column}
use Rattle.tb_group.specs.Codes.{codes_by, own_code}
use Rattle.tb_group.specs.Promise.Keys.{key_code}
use Rattle.tb_group.proofs.RowCodes.{one_more_row, pushed_code}
use Rattle.tb_group.proofs.codes.column_codes.Goals as goal

pub loop-row-preserved : goal.loop-row-preserved
loop-row-preserved c =
    let cs = plain_column c.args.column.now ∷ [] in
    let row = c.loop-row.row in
    ap (codes_of own_code) c.in_ok-push.ensures.items
    ∙ pushed_code c.loop-row.codes.items c.column_code.result (codes_by cs row) (key_code cs row) c.loop-row.invariant c.column_code.ensures
    ∙ one_more_row cs row
