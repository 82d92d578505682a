use Rattle.std.proofs.Common.{◌≡◌, ◌∙◌, ◌^◌, ◌<◌, Some, ap, option_map, rules, sym, arith}
use Rattle.std.specs.Str.Parse.{digits_value}
use Rattle.serde_json.specs.Data.{number, unsigned}
use Rattle.serde_json.specs.Read.{number_of}
use Rattle.tb_tree.specs.View.{view}
use Rattle.tb_tree.specs.declared.value.Value.{Unsigned, the_lemmas}
use Rattle.tb_tree.proofs.Numbers.{number_of-digits}
use Rattle.tb_tree.proofs.number.number_of.Goals as goal

pub returns-in-Some : goal.returns-in-Some
returns-in-Some c =
    let s = c.as_bytes.result.now in
    let n = c.in-Some.number in
    let h = c.in-Some.ensures in
    let fits : digits_value 10 s < 2 ^ 64 = omega (arith, h.2, h.3) in
    let seen : view (Unsigned n) ≡ number (unsigned n) = search (rules, the_lemmas) in
    let read : number_of s ≡ Some (unsigned n) = number_of-digits s h.0 h.1 fits ∙ ap (λ m. Some (unsigned m)) h.2 in
    ap Some seen ∙ ap (option_map number) (sym read) ∙ ap (λ t. option_map number (number_of t)) c.as_bytes.ensures.value
