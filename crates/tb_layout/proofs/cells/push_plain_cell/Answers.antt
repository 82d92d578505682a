use Rattle.std.proofs.Common.{◌≡◌, ◌-◌, ◌∙◌, IfOk, List, Option, ap, length, sym, subst, ℕ}
use Rattle.tb_layout.specs.Promise.Characters.{shown_text, width_of}
use Rattle.tb_layout.specs.Promise.Lines.{blanks, padded_cell}
use Rattle.tb_layout.specs.Room.{with_cut}
use Rattle.tb_layout.proofs.Plain.{shown_plain, width_plain}
use Rattle.tb_layout.proofs.Room.{cut_more}
use Rattle.tb_layout.proofs.Sides.{blanks_first, blanks_last}
use Rattle.tb_layout.proofs.cells.push_plain_cell.Goals as goal
use Rattle.tb_layout.proofs.cells.push_plain_cell.Goals.{then-at_right+in_ok-room+in_ok-room-2, else-at_right+in_ok-room-3+in_ok-room-4}

pub returns : goal.returns
returns c =
    let cell = c.args.cell.now in
    let same : shown_text cell ≡ cell = shown_plain cell c.requires in
    let wide : width_of (shown_text cell) ≡ length cell = ap width_of same ∙ width_plain cell c.requires in
    let missing : c.saturating_sub-missing.result ≡ c.args.width - width_of (shown_text cell) = c.saturating_sub-missing.ensures ∙ ap (λ n. c.args.width - n) (sym wide) in
    let old : List ℕ × Option ℕ = (c.args.text.now.items, c.args.room) in
    let padded = padded_cell c.args.at_right c.args.width (shown_text cell) in
    let written : (c.if-at_right.text.items, c.if-at_right.room) ≡ with_cut old padded = elim c.if-at_right.branch [
      | then-at_right+in_ok-room+in_ok-room-2 w ↦ (λ i. ((w.text-is i).items, w.room-is i)) ∙ blanks_first c.args.at_right c.args.width c.saturating_sub-missing.result cell (shown_text cell) old _ _ w.if-at_right.true missing same w.in_ok-room.ensures w.in_ok-room-2.ensures
      | else-at_right+in_ok-room-3+in_ok-room-4 w ↦ (λ i. ((w.text-is i).items, w.room-is i)) ∙ blanks_last c.args.at_right c.args.width c.saturating_sub-missing.result cell (shown_text cell) old _ _ w.if-at_right.false missing same w.in_ok-room-3.ensures w.in_ok-room-4.ensures
    ] in
    subst (λ (q : List ℕ × Option ℕ). IfOk c.push_blanks-2.result (λ after. (c.push_blanks-2.new.text.items, after) ≡ q))
    (ap (λ (p : List ℕ × Option ℕ). with_cut p (blanks 2)) written ∙ sym (cut_more old padded (blanks 2))) c.push_blanks-2.ensures
