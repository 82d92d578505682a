use Rattle.std.proofs.Common.{◌≡◌, ◌∙◌, ◌++◌, ℕ, List, true, false, cond, Some, None, length, take, drop, arith, ap, sym}
use Rattle.std.specs.List.{list_all}
use Rattle.std.specs.Result.{result_ok}
use Rattle.std.proofs.lemmas.List.{take_at}
use Rattle.hex.specs.Hex.{decode_of}
use Rattle.tb_json.specs.Promise.Cells.{is_lower_digit, bytes_in}
use Rattle.tb_json.proofs.read_plain_cells.decode_into.Goals as goal

capitals : (s : List ℕ) → list_all is_lower_digit s ≡ false → None ≡ bytes_in s
unfolding bytes_in
capitals s h = sym (ap (λ b. cond b (result_ok (decode_of s)) None) h)

digits : (s : List ℕ) → list_all is_lower_digit s ≡ true → result_ok (decode_of s) ≡ bytes_in s
unfolding bytes_in
digits s h = sym (ap (λ b. cond b (result_ok (decode_of s)) None) h)

pub returns-then-not-are_lower_digits : goal.returns-then-not-are_lower_digits
returns-then-not-are_lower_digits c = capitals c.args.digits.now (ap (list_all is_lower_digit) (sym c.as_bytes.ensures.value) ∙ sym c.are_lower_digits.ensures ∙ c.if-not-are_lower_digits.true)

pub returns : goal.returns
returns c =
    let out = c.decode_to.new.out in
    let filled = c.resize.new.self in
    let whole : take filled.len (out ++ drop (length out) filled.items) ≡ out = take_at out (drop (length out) filled.items) filled.len (omega (arith, filled.ok.0, c.decode_to.auto.out, c.as_mut_slice.ensures.len)) in
    ap (λ l. cond c.decode_to.result (Some l) None) whole ∙ c.decode_to.ensures
    ∙ digits c.args.digits.now (ap (list_all is_lower_digit) (sym c.as_bytes.ensures.value) ∙ sym c.if-not-are_lower_digits.ensures)
