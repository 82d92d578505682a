use Rattle.std.proofs.Common.{◌≡◌, ◌-◌, ◌++◌, ◌∙◌, List, None, ℕ, Option, Some, ap, arith, length, sym, take}
use Rattle.tb_layout.specs.Room.{with_cut}
use Rattle.tb_layout.proofs.Room.{plain_fits, plain_stops, stopped}
use Rattle.tb_layout.proofs.characters.push_plain.Goals as goal

pub returns-in_ok-extend_from_slice-in-Some : goal.returns-in_ok-extend_from_slice-in-Some
returns-in_ok-extend_from_slice-in-Some c =
    let plain = c.args.plain.now in
    let old = c.args.text.now.items in
    let room = c.in-Some.room in
    ap (λ (s : List ℕ). (s, Some (room - length plain))) c.in_ok-extend_from_slice-in-Some.ensures.items
    ∙ sym (plain_fits plain old room c.requires (omega arith))
    ∙ ap (λ (o : Option ℕ). with_cut (old, o) plain) (sym c.in-Some.is)

pub returns-in_ok-extend_from_slice-in-Some-2 : goal.returns-in_ok-extend_from_slice-in-Some-2
returns-in_ok-extend_from_slice-in-Some-2 c =
    let plain = c.args.plain.now in
    let old = c.args.text.now.items in
    let room = c.in-Some.room in
    let both : c.in-Some-2.room ≡ room = cc (sym c.in-Some.is ∙ c.in-Some-2.is) in
    ap (λ (s : List ℕ). (s, None)) (c.in_ok-extend_from_slice-in-Some-2.ensures.items ∙ ap (λ (n : ℕ). old ++ take n plain) both)
    ∙ sym (plain_stops plain old room c.requires (omega arith))
    ∙ ap (λ (o : Option ℕ). with_cut (old, o) plain) (sym c.in-Some.is)

pub returns-in-None : goal.returns-in-None
returns-in-None c =
    let plain = c.args.plain.now in
    let old = c.args.text.now.items in
    sym (stopped old plain) ∙ ap (λ (o : Option ℕ). with_cut (old, o) plain) (sym c.in-None.is)
