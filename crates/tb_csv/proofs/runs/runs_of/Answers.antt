use Rattle.std.proofs.Common.{◌++◌, ◌∙◌, [], append-nil, ap, refl, subst, sym}
use Rattle.tb_csv.specs.Read.{AreRunsOf}
use Rattle.tb_csv.proofs.CutText.{no_separator}
use Rattle.tb_csv.proofs.InPieces.{next_part, no_bytes, no_piece}
use Rattle.tb_csv.proofs.runs.runs_of.Goals as goal

pub loop-rest-init : goal.loop-rest-init
loop-rest-init c apart start =
    ([], refl, start, rw c.new-runs.ensures.items (no_piece c.args.separator (no_separator c.args.separator apart) c.args.width))

pub loop-rest-preserved : goal.loop-rest-preserved
loop-rest-preserved c apart start =
    let so_far = c.loop-rest.invariant apart start in
    let part = c.cut.result.0.now in
    let next = next_part c.args.separator (no_separator c.args.separator apart) c.args.width apart c.args.piece.now so_far.0 part c.cut.result.1.now c.loop-rest.rest.now c.in_ok-run_of.field-0
    c.loop-rest.runs.items c.push_run.new.runs.items so_far.1 c.cut.ensures.whole so_far.2 so_far.3 c.in_ok-run_of.ensures (c.in_ok-push_run.ensures c.args.width) in
    (so_far.0 ++ part, next.0, c.cut.ensures.rest, next.1)

pub returns : goal.returns
returns c apart start =
    let so_far = c.loop-rest.invariant apart start in
    let none = no_bytes c.loop-rest.rest.now c.loop-rest-test.ensures in
    let all = sym (append-nil so_far.0) ∙ ap (λ l. so_far.0 ++ l) (sym none) ∙ so_far.1 in
    subst (λ p. AreRunsOf c.args.separator c.args.width p c.loop-rest.runs.items) all so_far.3
