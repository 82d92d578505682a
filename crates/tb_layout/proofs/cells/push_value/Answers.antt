use Rattle.std.proofs.Common.{◌≡◌, ◌++◌, IfOk, List, ℕ, subst}
use Rattle.tb_layout.specs.Promise.Lines.{blanks}
use Rattle.tb_layout.specs.Room.{with_cut}
use Rattle.tb_layout.proofs.Numbers.{digits_shown}
use Rattle.tb_layout.proofs.cells.push_value.Goals as goal

pub returns-in-Some : goal.returns-in-Some
returns-in-Some c =
    subst (λ (t : List ℕ). IfOk c.push_number.result (λ after. (c.push_number.new.text.items, after) ≡ with_cut (c.args.text.now.items, c.args.room) (t ++ blanks 2)))
    (digits_shown c.in-Some.number c.args.width _ _ c.in-Some.ensures.few c.in-Some.ensures.text c.in-Some.ensures.number) c.push_number.ensures
