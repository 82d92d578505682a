use Rattle.std.proofs.Common.{◌∙◌, sym}
use Rattle.tb_run.proofs.SampleRows.{no_rows, rows_read}
use Rattle.tb_run.proofs.words.sample_rows.Goals as goal

pub returns-in-Ok : goal.returns-in-Ok
returns-in-Ok c =
    let plain = sym c.begins_plainly.ensures ∙ c.if-not-begins_plainly.false in
    c.in_bounds.ensures ∙ rows_read c.args.word.now c.in-Ok.rows plain c.in-Ok.ensures.value.0.0.0 c.in-Ok.ensures.value.0.1

pub returns-in-Err : goal.returns-in-Err
returns-in-Err c =
    let plain = sym c.begins_plainly.ensures ∙ c.if-not-begins_plainly.false in
    no_rows c.args.word.now plain c.in-Err.ensures.value.0
