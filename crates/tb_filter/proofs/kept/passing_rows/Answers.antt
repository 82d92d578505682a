use Rattle.std.proofs.Common.{◌≡◌, ◌∙◌, [], Bool, ap, sym, get_or, ℕ}
use Rattle.tb_value.specs.Promise.Datum.{null}
use Rattle.tb_value.specs.Promise.Pairs.{left_only}
use Rattle.tb_value.proofs.RowNumbers.{kept_push, kept_skip}
use Rattle.tb_chunk.specs.Promise.Col.{values}
use Rattle.tb_filter.specs.Promise.Filtered.{passes}
use Rattle.tb_filter.specs.Seen.{check_of}
use Rattle.tb_filter.proofs.kept.passing_rows.Goals as goal
use Rattle.tb_filter.proofs.kept.passing_rows.Goals.{then-passes+in_ok-push, else-passes}

pub loop-row-preserved : goal.loop-row-preserved
loop-row-preserved c =
    let check = check_of c.args.test.now in
    let test : ℕ → Bool = λ i. passes check (get_or (values c.args.column.now) i null) in
    let seen : c.passes.result ≡ test c.loop-row.row = c.passes.ensures ∙ ap (passes check) c.get.ensures.value in
    elim c.if-passes.branch [
      | then-passes+in_ok-push w ↦ rw w.rows-is (w.in_ok-push.ensures.items ∙ kept_push left_only test c.loop-row.row [] c.loop-row.rows.items w.left_only.result c.loop-row.invariant (sym seen ∙ w.if-passes.true) w.left_only.ensures)
      | else-passes w ↦ rw w.rows-is (kept_skip left_only test c.loop-row.row [] c.loop-row.rows.items c.loop-row.invariant (sym seen ∙ w.if-passes.false))
    ]
