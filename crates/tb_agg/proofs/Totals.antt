-- Sums, one value more.
use Rattle.std.proofs.Common.{◌≡◌, ◌∙◌, ℕ, ℤ, pos, ◌+ℤ◌, List, [], ◌∷◌, ◌++◌, map, fold, sym, ap}
use Rattle.std.proofs.lemmas.List.{map-append}
use Rattle.std.proofs.lemmas.List.Sums.{fold-append}
use Rattle.tb_value.specs.Promise.Datum.{Datum}
use Rattle.tb_agg.specs.Promise.Aggregates.{number, total}

pub total_more : (f : ℕ → Datum) (rows : List ℕ) (n : ℕ) → total (map f (rows ++ n ∷ [])) ≡ total (map f rows) +ℤ number (f n)
total_more f rows n =
    ap total (map-append f rows (n ∷ []))
    ∙ ap (fold ◌+ℤ◌ (pos 0)) (map-append number (map f rows) (f n ∷ []))
    ∙ fold-append ◌+ℤ◌ (pos 0) (map number (map f rows)) (number (f n) ∷ [])

pub total_step : (f : ℕ → Datum) (rows : List ℕ) (n : ℕ) (s t : ℤ) (v : Datum) → s ≡ total (map f rows) → v ≡ f n → t ≡ s +ℤ number v → t ≡ total (map f (rows ++ n ∷ []))
total_step f rows n s t v was is next =
    next ∙ ap (λ (x : ℤ). x +ℤ number v) was ∙ ap (λ (w : Datum). total (map f rows) +ℤ number w) is ∙ sym (total_more f rows n)
