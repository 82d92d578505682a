use Rattle.std.proofs.Common.{◌≡◌, ◌∙◌, ◌∷◌, [], ap, arith, drop, length, refl}
use Rattle.tb_csv.specs.declared.run.Run.{Run}
use Rattle.tb_csv.specs.declared.run.RunFields.TheVariants as held
use Rattle.tb_csv.specs.declared.run.TextFields.{TextFields}
use Rattle.tb_csv.proofs.ReadRecords.{by_marks}
use Rattle.tb_csv.proofs.whole.marked_lines.Goals as goal

pub returns-clause-read : goal.returns-clause-read
returns-clause-read c qs ls alike are =
    let lines = c.args.lines in
    let texts : TextFields = record { fields = lines.fields; marks = c.in_ok-marks.marks } in
    let run : Run = record { fields = held.Rows texts; height = lines.height } in
    let one : c.push.new.self.items ≡ run ∷ [] = rw (c.in_ok-push.ensures.items, c.in_ok-runs.ensures.items) refl in
    let width : c.len.result ≡ length lines.names.items = omega (arith, c.len.ensures, lines.names.ok.0) in
    by_marks _ run texts lines c.args.marks.now qs ls alike are refl one refl refl refl (c.in_ok-marks.ensures ∙ ap (λ n. drop n c.args.marks.now) width) refl
