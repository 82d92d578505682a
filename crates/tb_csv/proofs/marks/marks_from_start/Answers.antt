use Rattle.std.proofs.Common.{◌∙◌, false, refl, sym, true, ap}
use Rattle.std.proofs.lemmas.List.{append-nil}
use Rattle.tb_csv.specs.Places.{state_at}
use Rattle.tb_csv.specs.Promise.LineNumbers.{is_open}
use Rattle.tb_csv.specs.Promise.Records.{form, is_quoted}
use Rattle.tb_csv.proofs.MarkWalks.{behind_end, behind_more, marks_end, marks_grow}
use Rattle.tb_csv.proofs.marks.marks_from_start.Goals as goal
use Rattle.tb_csv.proofs.marks.marks_from_start.Goals.{else-ends_at_end, else-ends_field, then-ends_at_end+in_ok-push-2, then-ends_field+in_ok-push}

pub loop-byte-preserved : goal.loop-byte-preserved
loop-byte-preserved c =
    let inv = c.loop-byte.invariant in
    let cfg = form c.args.separator in
    let behind = behind_more cfg (state_at c.loop-byte.place) _ _ c.args.text.now c.loop-byte.byte-index c.loop-byte-test.true c.after-next.ensures.0 inv.behind in
    elim c.if-ends_field.branch [
      | then-ends_field+in_ok-push w ↦ record {
        marks = rw (w.marks-is, w.place-is) (marks_grow cfg (state_at c.loop-byte.place) _ true _ _ _ _ c.args.text.now c.loop-byte.byte-index c.loop-byte-test.true
            c.after-next.ensures.0 (sym w.if-ends_field.true ∙ c.after-next.ensures.1) w.is_quoted.ensures w.in_ok-push.ensures.items inv.marks);
        behind = rw w.place-is behind;
      }
      | else-ends_field w ↦ record {
        marks = rw (w.marks-is, w.place-is) (marks_grow cfg (state_at c.loop-byte.place) _ false (is_quoted (state_at c.loop-byte.place)) _ _ _ c.args.text.now c.loop-byte.byte-index c.loop-byte-test.true
            c.after-next.ensures.0 (sym w.if-ends_field.false ∙ c.after-next.ensures.1) refl (sym (append-nil c.loop-byte.marks.items)) inv.marks);
        behind = rw w.place-is behind;
      }
    ]

pub returns-clause-marks : goal.returns-clause-marks
returns-clause-marks c = elim c.if-ends_at_end.branch [
  | then-ends_at_end+in_ok-push-2 w ↦
      rw w.marks-is (marks_end (form c.args.separator) (state_at c.loop-byte.place) true _ _ _ _ c.args.text.now c.loop-byte.byte-index c.loop-byte-test.false
      (sym w.if-ends_at_end.true ∙ c.ends_at_end.ensures) w.is_quoted-then-ends_at_end.ensures w.in_ok-push-2.ensures.items c.loop-byte.invariant.marks)
  | else-ends_at_end w ↦
      rw w.marks-is (marks_end (form c.args.separator) (state_at c.loop-byte.place) false (is_quoted (state_at c.loop-byte.place)) _ _ _ c.args.text.now c.loop-byte.byte-index c.loop-byte-test.false
      (sym w.if-ends_at_end.false ∙ c.ends_at_end.ensures) refl (sym (append-nil c.loop-byte.marks.items)) c.loop-byte.invariant.marks)
]

pub returns-clause-open : goal.returns-clause-open
returns-clause-open c =
    c.is_open-is_open.ensures ∙ ap is_open (behind_end (form c.args.separator) (state_at c.loop-byte.place) _ c.args.text.now c.loop-byte.byte-index c.loop-byte-test.false c.loop-byte.invariant.behind)
