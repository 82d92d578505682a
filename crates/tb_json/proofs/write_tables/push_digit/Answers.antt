use Rattle.std.proofs.Common.{◌≡◌, ◌+◌, ◌++◌, ◌∙◌, ◌∷◌, [], List, ℕ, ap, string_bytes, sym, arith}
use Rattle.std.proofs.lemmas.Fmt.{decimal_digit}
use Rattle.tb_json.proofs.write_tables.push_digit.Goals as goal

pub returns : goal.returns
returns c =
    let is : c.from.result ≡ 48 + c.args.digit = omega arith in
    let one = c.in_ok-push.ensures.ascii (omega arith) in
    c.in_ok-push.ensures.bytes
    ∙ ap (λ (s : List ℕ). string_bytes c.args.text.now ++ s) (one ∙ ap (λ (n : ℕ). n ∷ []) is ∙ sym (decimal_digit c.args.digit c.requires))
