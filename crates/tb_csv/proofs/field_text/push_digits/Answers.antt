use Rattle.std.proofs.Common.{◌≡◌, ◌++◌, ◌∙◌, List, ℕ, ap, sym, rules}
use Rattle.std.specs.Fmt.{signed_decimal}
use Rattle.tb_csv.proofs.NumberTexts.{plain_number}
use Rattle.tb_csv.proofs.field_text.push_digits.Goals as goal

pub returns : goal.returns
returns c =
    let plain = plain_number c.args.separator c.args.number c.ranges.number (sym c.stands_in_numbers.ensures ∙ c.if-stands_in_numbers.false) in
    let printed : c.format.result.now ≡ signed_decimal c.args.number = search rules in
    c.in_ok-extend_from_slice.ensures.items
    ∙ ap (λ (s : List ℕ). c.args.text.now.items ++ s) (c.as_bytes-digits.ensures.value ∙ printed ∙ sym plain)
