use Rattle.std.proofs.Common.{◌≡◌, ◌∙◌, IfOk, List, ℕ, ap, arith, subst}
use Rattle.std.specs.List.{list_all}
use Rattle.std.proofs.lemmas.List.{take-replicate}
use Rattle.tb_layout.specs.Room.{is_plain, with_cut}
use Rattle.tb_layout.proofs.Plain.{plain_blanks}
use Rattle.tb_layout.proofs.characters.push_blanks.Goals as goal

pub push_plain-requires : goal.push_plain-requires
push_plain-requires c =
    let front = take-replicate c.args.count 32 32 (omega (arith, c.if-count-le32.true)) in
    ap (list_all is_plain) front ∙ plain_blanks c.args.count

pub returns-then-count-le32 : goal.returns-then-count-le32
returns-then-count-le32 c =
    let front = take-replicate c.args.count 32 32 (omega (arith, c.if-count-le32.true)) in
    subst (λ (s : List ℕ). IfOk c.push_plain.result (λ after. (c.push_plain.new.text.items, after) ≡ with_cut (c.args.text.now.items, c.args.room) s)) front c.push_plain.ensures
