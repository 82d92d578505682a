-- Columns that are stacked.
use Rattle.std.proofs.Common.{arith, ◌≡◌, ◌∙◌, ◌≤◌, ◌<◌, ℕ, List, [], ◌∷◌, length, get_or, map, replicate, ap, sym, refl, length-append}
use Rattle.std.specs.Borrow.{Bor}
use Rattle.std.specs.List.{All}
use Rattle.std.proofs.lemmas.List.{length-map, get_or_default}
use Rattle.std.proofs.lemmas.List.Elements.{All-weaker, All-head, All-tail, All-append}
use Rattle.tb_value.specs.Promise.Datum.{Datum, null}
use Rattle.tb_value.specs.Promise.Kind.{Kind}
use Rattle.tb_value.specs.Promise.Kind as kind
use Rattle.tb_value.specs.Promise.Typed.{HasType}
use Rattle.tb_value.specs.declared.limits.TheConstants.{MAX_ROWS}
use Rattle.tb_chunk.specs.Promise.Col.{Col, concatenation, values}
use Rattle.tb_chunk.specs.Col.{IsColumn, physical}
use Rattle.tb_chunk.specs.Fits.{Fits}
use Rattle.tb_chunk.specs.Promise.Made.{at_least_one}
use Rattle.tb_view.specs.Promise.ViewArrays.{ViewArray}
use Rattle.tb_value.specs.declared.sorted.IsSorted.TheVariants.{Not}
use Rattle.tb_chunk.proofs.Fitting.{fits_stored, null-only}
use Rattle.tb_chunk.proofs.Lists.{All-map-at, replicate-nulls}
use Rattle.tb_supertype.specs.Promise.Cast.{cast}
use Rattle.tb_supertype.proofs.Casts.{cast-is}
use Rattle.tb_supertype.specs.Columns.{cast_values, CastsTo}

-- a column that is cast to a type stored as nulls has nothing else
pub only_nulls : (t : Kind) (c : Col) (n : ℕ) → physical t ≡ kind.null → n ≡ length (values c) → CastsTo t c → replicate n null ≡ cast_values t c
only_nulls t c n e k all =
    ap (λ m. replicate m null) (k ∙ sym (length-map (values c) (cast t)))
    ∙ replicate-nulls (cast_values t c) (All-weaker (Fits kind.null) (λ v. v ≡ null) null-only (cast_values t c) (fits_stored t kind.null (cast_values t c) e all))

stacked_lengths : (t : Kind) (cs : List (Bor Col)) → length (concatenation (map (λ (c : Bor Col). cast_values t c.now) cs)) ≡ length (concatenation (map (λ (c : Bor Col). values c.now) cs))
stacked_lengths t [] = refl
stacked_lengths t (c ∷ cs) = omega (arith, length-append (cast_values t c.now) (concatenation (map (λ (d : Bor Col). cast_values t d.now) cs)), length-append (values c.now) (concatenation (map (λ (d : Bor Col). values d.now) cs)), length-map (values c.now) (cast t), stacked_lengths t cs)

stacked_typed : (t : Kind) (cs : List (Bor Col)) → All (λ (c : Bor Col). CastsTo t c.now) cs → All (HasType t) (concatenation (map (λ (c : Bor Col). cast_values t c.now) cs))
stacked_typed t [] all = λ i d h. absurd (omega arith)
stacked_typed t (c ∷ cs) all =
    let P : Bor Col → Type 0 = λ b. CastsTo t b.now in
    All-append (HasType t) (cast_values t c.now) (concatenation (map (λ (d : Bor Col). cast_values t d.now) cs)) (All-head P c cs all) (stacked_typed t cs (All-tail P c cs all))

pub stacked-again : (t : Kind) (cs : List (Bor Col)) → map (λ (c : Bor Col). cast_values t c.now) cs ≡ map (cast_values t) (map (λ (c : Bor Col). c.now) cs)
stacked-again t [] = refl
stacked-again t (c ∷ cs) = ap (λ l. cast_values t c.now ∷ l) (stacked-again t cs)

pub flat-at_least_one : (cs : List (List Datum)) → concatenation (at_least_one cs) ≡ concatenation cs
flat-at_least_one [] = refl
flat-at_least_one (c ∷ cs) = refl

length-at_least_one : (cs : List (List Datum)) → 0 < length (at_least_one cs)
length-at_least_one [] = omega arith
length-at_least_one (c ∷ cs) = omega arith

pub stacked_column : (n : List ℕ) (t : Kind) (cs : List (Bor Col)) (runs : List ViewArray) → length (concatenation (map (λ (c : Bor Col). values c.now) cs)) ≤ MAX_ROWS → All (λ (c : Bor Col). CastsTo t c.now) cs → IsColumn record { name = n; kind = t; chunks = at_least_one (map (cast_values t) (map (λ (c : Bor Col). c.now) cs)); flag = Not; view_arrays = runs }
stacked_column n t cs runs few typed =
    let e = stacked-again t cs in
    record {
      chunked = length-at_least_one (map (cast_values t) (map (λ (c : Bor Col). c.now) cs));
      short = rw (flat-at_least_one (map (cast_values t) (map (λ (c : Bor Col). c.now) cs)), ← e) (omega (arith, stacked_lengths t cs));
      typed = rw (flat-at_least_one (map (cast_values t) (map (λ (c : Bor Col). c.now) cs)), ← e) (stacked_typed t cs typed);
      flag_holds = tt;
    }

-- what a chunk can hold of all values holds of one
pub fits_at : (k t : Kind) (vs : List Datum) (i : ℕ) (v : Datum) → i < length vs → v ≡ get_or vs i null → All (Fits k) (map (cast t) vs) → Fits k (cast t v)
fits_at k t vs i v h e all = All-map-at (Fits k) (cast t) vs i v h (e ∙ get_or_default vs i null v h) all

-- values of the type are cast to themselves
pub cast-each : (t : Kind) (vs : List Datum) → All (HasType t) vs → map (cast t) vs ≡ vs
cast-each t [] all = refl
cast-each t (v ∷ vs) all = ap (λ x. x ∷ map (cast t) vs) (cast-is t v (All-head (HasType t) v vs all)) ∙ ap (λ xs. v ∷ xs) (cast-each t vs (All-tail (HasType t) v vs all))
