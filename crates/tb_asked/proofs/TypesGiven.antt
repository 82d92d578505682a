-- The type that a word gives, by the parts round its last sign.
use Rattle.std.proofs.Common.{◌≡◌, ◌∙◌, ◌≤◌, Bool, ap, sym, if◌then◌else◌, length, List, ℕ, Option, Some, None, option_map, take, drop}
use Rattle.std.specs.List.{after_last, before_last}
use Rattle.std.specs.Str.Pattern.{RFindsChar}
use Rattle.std.proofs.lemmas.Bool.{eq-eqb, ne_eqb}
use Rattle.tb_words.specs.Words.{is_sign}
use Rattle.tb_value.specs.Promise.Names.{Name}
use Rattle.tb_csv.specs.declared.field_type.FieldType.{FieldType}
use Rattle.tb_asked.specs.Options.{type_named, type_given}
use Rattle.tb_asked.proofs.LastSigns.{name_part, none_found, some_sign, type_part}

-- a name and what a word names
abbrev named : List ℕ → List ℕ → Option (Name × FieldType)
named front back = option_map (λ t. (front, t)) (type_named back)

pub no_sign : (w : List ℕ) → RFindsChar 61 w None → type_given w ≡ None
no_sign w found = ap (λ (b : Bool). if b then None else named (before_last is_sign w) (after_last is_sign w)) (eq-eqb _ _ (none_found w found))

pub round_sign : (w front back : List ℕ) (i j : ℕ) → RFindsChar 61 w (Some (i, j)) → j ≤ length w → front ≡ take i w → back ≡ drop j w
    → option_map (λ t. (front, t)) (type_named back) ≡ type_given w
round_sign w front back i j found fits is_front is_back =
    sym (ap (λ (b : Bool). if b then None else named (before_last is_sign w) (after_last is_sign w)) (ne_eqb _ _ (some_sign w i j found fits))
    ∙ (λ t. named ((name_part w i j found fits ∙ sym is_front) t) ((type_part w i j found fits ∙ sym is_back) t)))
