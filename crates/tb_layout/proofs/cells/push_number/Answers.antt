use Rattle.std.proofs.Common.{◌≡◌, ◌∙◌, IfOk, List, ℕ, ap, arith, subst}
use Rattle.std.specs.List.{list_all}
use Rattle.tb_layout.specs.Room.{is_plain, with_cut}
use Rattle.tb_layout.proofs.Numbers.{digits_fit, number_cell, plain_cell}
use Rattle.tb_layout.proofs.cells.push_number.Goals as goal

pub write_digits-start-requires : goal.write_digits-start-requires
write_digits-start-requires c = (digits_fit c.args.number (omega arith), omega arith)

pub push_plain-requires : goal.push_plain-requires
push_plain-requires c =
    let is = number_cell c.args.number c.write_digits-start.result c.args.width c.min.result c.write_digits-start.new.buf (omega arith) c.requires c.write_digits-start.ensures.start c.write_digits-start.ensures.written c.write_digits-start.ensures.before c.min.ensures in
    ap (list_all is_plain) is ∙ plain_cell c.args.number c.args.width (omega arith)

pub returns : goal.returns
returns c =
    let is = number_cell c.args.number c.write_digits-start.result c.args.width c.min.result c.write_digits-start.new.buf (omega arith) c.requires c.write_digits-start.ensures.start c.write_digits-start.ensures.written c.write_digits-start.ensures.before c.min.ensures in
    subst (λ (s : List ℕ). IfOk c.push_plain.result (λ after. (c.push_plain.new.text.items, after) ≡ with_cut (c.args.text.now.items, c.args.room) s)) is c.push_plain.ensures
