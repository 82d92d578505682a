use Rattle.std.proofs.Common.{◌≡◌, None, Some, option_and_then, option_map, List, [], ◌∷◌, length, get_or, refl, ◌∙◌, sym, ap, arith}
use Rattle.serde_json.specs.Data.{Data}
use Rattle.serde_json.specs.Find.{as_array}
use Rattle.serde_json.specs.View.{items_of}
use Rattle.tb_tree.specs.View.{view, item_view, listed}
use Rattle.tb_request.specs.Promise.Written.{slice_from, slice_in}
use Rattle.tb_json.proofs.LentValues.{as_list-array, two_listed}
use Rattle.tb_request.proofs.arguments.slice_in.Goals as goal

not_two : (ds : List Data) → (length ds ≡ 2 → ⊥) → slice_from ds ≡ None
not_two [] h = refl
not_two (a ∷ []) h = refl
not_two (a ∷ b ∷ []) h = absurd (h refl)
not_two (a ∷ b ∷ d ∷ more) h = refl

slice_is : (d : Data) (ds : List Data) → Some (items_of ds) ≡ as_array d → option_map Some (slice_from ds) ≡ slice_in d
slice_is d ds e = sym (ap (λ o. option_map Some (option_and_then slice_from o)) (as_list-array d ds e))

two : (d : Data) (ds : List Data) (a b : Data) → Some (items_of ds) ≡ as_array d → length ds ≡ 2 → a ≡ get_or ds 0 a → b ≡ get_or ds 1 b → option_map Some (slice_from (a ∷ b ∷ [])) ≡ slice_in d
two d ds a b e len first second = ap (λ es. option_map Some (slice_from es)) (sym (two_listed ds a b len first second)) ∙ slice_is d ds e

pub returns-then-len-ne2 : goal.returns-then-len-ne2
returns-then-len-ne2 c =
    let ds = listed c.in_ok-items.items in
    ap (option_map Some) (sym (not_two ds (λ e. c.if-len-ne2.true (omega (arith, e))))) ∙ slice_is (view c.args.value.now) ds c.in_ok-items.ensures
