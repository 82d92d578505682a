use Rattle.std.proofs.Common.{◌∙◌, refl, sym}
use Rattle.tb_csv.specs.Promise.Records.{lines_of}
use Rattle.tb_csv.specs.declared.run.TextFields.{TextFields}
use Rattle.tb_csv.proofs.InPieces.{fields_fill, run_read}
use Rattle.tb_csv.proofs.run.marked_run.Goals as goal

pub in_columns-requires : goal.in_columns-requires
in_columns-requires c =
    let lines = lines_of c.args.separator c.args.piece.now in
    let rows = c.in_ok-height.ensures.rows c.args.separator lines c.open_reader-reader.ensures in
    let texts : TextFields = record { fields = c.read_rows.new.fields; marks = c.in_ok-marks.marks.marks } in
    record {
      full = fields_fill c.args.separator c.args.width c.args.piece.now texts c.in_ok-height.height (c.in_ok-height.ensures.settles c.args.separator lines c.open_reader-reader.ensures) rows.0 (rows.1 ∙ rw c.in_ok-fields.ensures refl);
    }

pub returns : goal.returns
returns c =
    let lines = lines_of c.args.separator c.args.piece.now in
    let rows = c.in_ok-height.ensures.rows c.args.separator lines c.open_reader-reader.ensures in
    let texts : TextFields = record { fields = c.read_rows.new.fields; marks = c.in_ok-marks.marks.marks } in
    run_read c.args.separator c.args.width c.args.piece.now texts c.in_ok-height.height (c.in_ok-height.ensures.settles c.args.separator lines c.open_reader-reader.ensures) rows.0 (rows.1 ∙ rw c.in_ok-fields.ensures refl)
    c.in_ok-fields-2.fields (sym c.in_ok-marks.ensures.open ∙ c.if-marks.false) c.in_ok-marks.ensures.marks c.in_ok-fields-2.ensures
