-- Whether a value was pushed, and which.
use Rattle.std.proofs.Common.{◌≡◌, ◌∙◌, ℕ, ◌+◌, List, [], ◌∷◌, ◌++◌, map, replicate, Bool, true, false, Option, Some, None, refl, ap, append_assoc}
use Rattle.std.specs.Option.{MatchOption}
use Rattle.std.proofs.lemmas.List.{map-append, replicate-append-replicate}
use Rattle.tb_value.specs.Promise.Datum.{Datum}
use Rattle.tb_cell.specs.Shown.{or_null}
use Rattle.tb_view.proofs.Filled.{map-replicate}

-- n rows and one more
pub one_more : {A : Type 0} (old now new : List A) (v : A) (n times : ℕ) → n + 1 ≡ times → now ≡ old ++ replicate n v → new ≡ now ++ v ∷ [] → new ≡ old ++ replicate times v
one_more old now new v n times all so_far e =
    e ∙ ap (λ l. l ++ v ∷ []) so_far ∙ append_assoc old (replicate n v) (v ∷ []) ∙ ap (λ l. old ++ l) (replicate-append-replicate n 1 v ∙ ap (λ k. replicate k v) all)

-- the values of n rows more
pub rows_shown : {N : Type 0} (shows : N → Datum) (old new : List (Option N)) (o : Option N) (n : ℕ) → new ≡ old ++ replicate n o → map (or_null shows) new ≡ map (or_null shows) old ++ replicate n (or_null shows o)
rows_shown shows old new o n e = ap (map (or_null shows)) e ∙ map-append (or_null shows) old (replicate n o) ∙ ap (λ l. map (or_null shows) old ++ l) (map-replicate (or_null shows) n o)

pub not_pushed : (P : Datum → Type 0) (o : Option Datum) (b : Bool) → MatchOption o (b ≡ false) (λ d. (b ≡ true) × P d) → b ≡ false → o ≡ None
not_pushed P None b h e = refl
not_pushed P (Some d) b h e = let t = h.0 in cc

pub is_pushed : (P : Datum → Type 0) (o : Option Datum) (b : Bool) → MatchOption o (b ≡ false) (λ d. (b ≡ true) × P d) → b ≡ true → (d : Datum) × (o ≡ Some d) × P d
is_pushed P None b h e = cc
is_pushed P (Some d) b h e = (d, refl, h.1)
