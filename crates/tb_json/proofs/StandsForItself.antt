-- A text without a quote, a backslash or a control character is its own escape.
use Rattle.std.proofs.Common.{◌≡◌, ℕ, List, [], ◌∷◌, true, ◌==◌, ◌++◌, refl, sym, ap, ◌∙◌, append_assoc}
use Rattle.std.proofs.lemmas.Bool.{and_parts, or_parts, not-true, eqb-false, ltb-false}
use Rattle.std.specs.List.{list_all}
use Rattle.json.specs.Print.{escape, quoted}
use Rattle.json.specs.Run.{is_plain, is_stop}
use Rattle.json.proofs.Printed.Strings.{escape_byte_plain}

pub own_escape : (s : List ℕ) → list_all is_plain s ≡ true → escape s ≡ s
own_escape [] h = refl
own_escape (x ∷ xs) h =
    let both = and_parts (is_plain x) _ h in
    let none = or_parts _ _ (not-true (is_stop x) both.0) in
    let tests = or_parts (x == 34) _ none.0 in
    let rest = own_escape xs both.1 in
    λ i. escape_byte_plain x (eqb-false x 34 tests.0) (eqb-false x 92 tests.1) (ltb-false x 32 none.1) i ++ rest i

pub quoted_plain : (s t opened filled closed : List ℕ) → opened ≡ t ++ 34 ∷ [] → filled ≡ opened ++ s → closed ≡ filled ++ 34 ∷ [] → list_all is_plain s ≡ true → closed ≡ t ++ quoted s
quoted_plain s t opened filled closed o f c h =
    c ∙ ap (λ x. x ++ 34 ∷ []) (f ∙ ap (λ x. x ++ s) o)
    ∙ append_assoc (t ++ 34 ∷ []) s (34 ∷ []) ∙ append_assoc t (34 ∷ []) (s ++ 34 ∷ [])
    ∙ ap (λ x. t ++ 34 ∷ (x ++ 34 ∷ [])) (sym (own_escape s h))
