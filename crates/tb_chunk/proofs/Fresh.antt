-- Facts on the views and buffers of chunks that are made of values.
use Rattle.std.proofs.Common.{◌≡◌, ◌∙◌, zero, suc, ℕ, List, [], ◌∷◌, Option, Some, None, map, replicate, refl, ap}
use Rattle.std.specs.List.{fold}
use Rattle.tb_value.specs.Promise.Datum.{Datum, null, string, binary}
use Rattle.tb_value.specs.See.{datum, data_of}
use Rattle.tb_value.specs.declared.any_value.AnyValue.{AnyValue}
use Rattle.tb_cell.specs.Shown.{or_null}
use Rattle.tb_view.specs.Promise.Layout.{Filling, with_text, buffers_of, next_views, text_view_array}
use Rattle.tb_chunk.specs.Promise.Fresh.{fresh_view_array}
use Rattle.tb_chunk.specs.Fresh.{no_views}
use Rattle.tb_value.specs.Promise.Texts.{text_of}

-- rows without a text have no view, and nothing is put for them
no_view : {N : Type 0} (s : Filling) (xs : List N) → next_views s (map (λ _. None) xs) ≡ map (λ _. None) xs
no_view s [] = refl
no_view s (x ∷ xs) = ap (λ vs. None ∷ vs) (no_view s xs)

nothing_put : {N : Type 0} (s : Filling) (xs : List N) → fold with_text s (map (λ _. None) xs) ≡ s
nothing_put s [] = refl
nothing_put s (x ∷ xs) = nothing_put s xs

laid-none : {N : Type 0} (xs : List N) → text_view_array (map (λ _. None) xs) ≡ no_views xs
laid-none xs =
    let v = no_view ([], []) xs in
    let b = nothing_put ([], []) xs in
    λ i. record { views = v i; buffers = buffers_of (b i) }

no_texts : {N : Type 0} (shows : N → Datum) → ((x : N) → text_of (shows x) ≡ None) → (xs : List (Option N)) → map text_of (map (or_null shows) xs) ≡ map (λ _. None) xs
no_texts shows none [] = refl
no_texts shows none (None ∷ xs) = ap (λ ts. None ∷ ts) (no_texts shows none xs)
no_texts shows none (Some x ∷ xs) =
    let h = none x in
    let t = no_texts shows none xs in
    λ i. h i ∷ t i

-- values that are no texts have no view and no buffer
pub fresh_cells : {N : Type 0} (shows : N → Datum) → ((x : N) → text_of (shows x) ≡ None) → (xs : List (Option N)) → fresh_view_array (map (or_null shows) xs) ≡ no_views xs
fresh_cells shows none xs = ap text_view_array (no_texts shows none xs) ∙ laid-none xs

strings : (ts : List (Option (List ℕ))) → map text_of (map (or_null string) ts) ≡ ts
strings [] = refl
strings (None ∷ ts) = ap (λ us. None ∷ us) (strings ts)
strings (Some t ∷ ts) = ap (λ us. Some t ∷ us) (strings ts)

binaries : (ts : List (Option (List ℕ))) → map text_of (map (or_null binary) ts) ≡ ts
binaries [] = refl
binaries (None ∷ ts) = ap (λ us. None ∷ us) (binaries ts)
binaries (Some t ∷ ts) = ap (λ us. Some t ∷ us) (binaries ts)

-- texts are laid out in their order, and so are bytes
pub fresh_texts : (ts : List (Option (List ℕ))) → fresh_view_array (map (or_null string) ts) ≡ text_view_array ts
fresh_texts ts = ap text_view_array (strings ts)

pub fresh_binaries : (ts : List (Option (List ℕ))) → fresh_view_array (map (or_null binary) ts) ≡ text_view_array ts
fresh_binaries ts = ap text_view_array (binaries ts)

-- nulls alone
null_views : (s : Filling) (n : ℕ) → next_views s (map text_of (replicate n null)) ≡ replicate n None
null_views s zero = refl
null_views s (suc n) = ap (λ vs. None ∷ vs) (null_views s n)

nulls_put : (s : Filling) (n : ℕ) → fold with_text s (map text_of (replicate n null)) ≡ s
nulls_put s zero = refl
nulls_put s (suc n) = nulls_put s n

pub fresh_nulls : (n : ℕ) → fresh_view_array (replicate n null) ≡ record { views = replicate n None; buffers = [] }
fresh_nulls n =
    let v = null_views ([], []) n in
    let b = nulls_put ([], []) n in
    λ i. record { views = v i; buffers = buffers_of (b i) }

-- the texts and bytes among values
pub texts_among : (vs : List AnyValue) → map (λ v. text_of (datum v)) vs ≡ map text_of (data_of vs)
texts_among [] = refl
texts_among (v ∷ vs) = ap (λ ts. text_of (datum v) ∷ ts) (texts_among vs)
