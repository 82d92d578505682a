use Rattle.std.proofs.Common.{◌∙◌, arith, refl, sym, ap, option_map, Some}
use Rattle.tb_asked.proofs.TypesGiven.{no_sign, round_sign}
use Rattle.tb_asked.proofs.options.type_of_word.Goals as goal

pub returns-in_default : goal.returns-in_default
returns-in_default c = (refl, no_sign c.args.word.now c.in_default.ensures.cases)

pub returns-in_ok-from_str-in-Some-type_named : goal.returns-in_ok-from_str-in-Some-type_named
returns-in_ok-from_str-in-Some-type_named c =
    let h = c.in-Some.ensures.cases in
    ap (λ n. Some (n, c.in-Some-type_named.field_type)) c.in_ok-from_str-in-Some-type_named.ensures
    ∙ ap (option_map (λ t. (c.in-Some.name.now, t))) (sym c.in-Some-type_named.is ∙ c.type_named.ensures)
    ∙ round_sign c.args.word.now c.in-Some.name.now c.in-Some.type_name.now h.0 h.1 h.2 (omega (arith, h.7)) h.3 h.4

pub returns-in-None : goal.returns-in-None
returns-in-None c =
    let h = c.in-Some.ensures.cases in (
      refl,
      sym (ap (option_map (λ t. (c.in-Some.name.now, t))) (sym c.in-None.is ∙ c.type_named.ensures)
          ∙ round_sign c.args.word.now c.in-Some.name.now c.in-Some.type_name.now h.0 h.1 h.2 (omega (arith, h.7)) h.3 h.4),
    )
