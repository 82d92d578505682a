-- Widths that are measured in pieces.
use Rattle.std.proofs.Common.{◌≡◌, ◌≤◌, ◌+◌, ◌*◌, ◌/◌, ◌∙◌, ◌∷◌, ◌++◌, [], ℕ, zero, suc, List, drop, length, map, max, min, refl, sym, ap, arith, take}
use Rattle.std.specs.List.{FoldsTo, fold}
use Rattle.std.proofs.lemmas.List.{map-append, take_all}
use Rattle.std.proofs.lemmas.List.Sums.{fold-append}
use Rattle.tb_value.specs.Promise.Datum.{Datum}
use Rattle.tb_value.specs.Promise.Kind.{Kind}
use Rattle.tb_value.specs.Promise.Pairs.{row_numbers}
use Rattle.tb_value.proofs.RowNumbers.{row_numbers_more}
use Rattle.tb_layout.specs.Promise.Characters.{width_of}
use Rattle.tb_layout.specs.Promise.Lines.{cell_of}
use Rattle.tb_layout.specs.Widths.{widest_cell}
use Rattle.tb_pieces.specs.declared.pieces.TheConstants.{ROWS_OF_A_PIECE}
use Rattle.tb_layout.proofs.Trimmed.{front_more}

abbrev wider : Kind → ℕ → Datum → ℕ
wider k w v = max w (width_of (cell_of k v))

fold_wider : (k : Kind) (w : ℕ) (vs : List Datum) → fold (wider k) w vs ≡ max w (fold (wider k) 0 vs)
fold_wider k w [] = omega arith
fold_wider k w (v ∷ vs) =
    let wide = width_of (cell_of k v) in
    let here = fold_wider k (max w wide) vs in
    let there = fold_wider k (max 0 wide) vs in
    omega (arith, here, there)

module _ (line : ℕ) (k : Kind) where
  -- values behind others
  widest_behind : (w : ℕ) (vs us : List Datum) → max (min line (fold (wider k) w vs)) (widest_cell line k us) ≡ min line (fold (wider k) w (vs ++ us))
  widest_behind w vs us = omega (arith, fold-append (wider k) w vs us, fold_wider k (fold (wider k) w vs) us)

  -- the widest of cells that are measured one after the other
  pub widest_read : {S : Type 0} (width : S → ℕ) (vs : List Datum) (before after : S)
      → FoldsTo (λ s v t. width t ≡ max (width s) (min line (width_of (cell_of k v)))) before vs after → width after ≡ max (width before) (widest_cell line k vs)
  widest_read width [] before after done =
      let same : width before ≡ width after = ap width done in
      omega (arith, same)
  widest_read width (v ∷ vs) before after (next, one, others) =
      let there = widest_read width vs next after others in
      let wide = width_of (cell_of k v) in
      let all = fold_wider k (max 0 wide) vs in
      omega (arith, one, there, all)

  module _ (name : ℕ) (vs : List Datum) where
    abbrev piece : ℕ → ℕ
    piece p = widest_cell line k (take ROWS_OF_A_PIECE (drop (p * ROWS_OF_A_PIECE) vs))

    -- the first so many pieces are the rows before the next one
    first_widths : (n : ℕ) → fold max (min line name) (map piece (row_numbers n)) ≡ min line (fold (wider k) name (take (n * ROWS_OF_A_PIECE) vs))
    first_widths zero = refl
    first_widths (suc n) =
        let more : suc n ≡ n + 1 = omega arith in
        let next : n * ROWS_OF_A_PIECE + ROWS_OF_A_PIECE ≡ suc n * ROWS_OF_A_PIECE = omega arith in
        ap (λ m. fold max (min line name) (map piece (row_numbers m))) more
        ∙ ap (λ l. fold max (min line name) (map piece l)) (row_numbers_more n)
        ∙ ap (fold max (min line name)) (map-append piece (row_numbers n) (n ∷ []))
        ∙ fold-append max (min line name) (map piece (row_numbers n)) (piece n ∷ [])
        ∙ ap (λ m. max m (piece n)) (first_widths n)
        ∙ widest_behind name (take (n * ROWS_OF_A_PIECE) vs) (take ROWS_OF_A_PIECE (drop (n * ROWS_OF_A_PIECE) vs))
        ∙ ap (λ us. min line (fold (wider k) name us)) (sym (front_more (n * ROWS_OF_A_PIECE) ROWS_OF_A_PIECE vs) ∙ ap (λ m. take m vs) next)

    -- the widest of all pieces is that of all rows
    pub all_widths : fold max (min line name) (map piece (row_numbers (length vs / ROWS_OF_A_PIECE + 1))) ≡ min line (fold (wider k) name vs)
    all_widths =
        let all : length vs ≤ (length vs / ROWS_OF_A_PIECE + 1) * ROWS_OF_A_PIECE = omega arith in
        first_widths (length vs / ROWS_OF_A_PIECE + 1) ∙ ap (λ us. min line (fold (wider k) name us)) (take_all ((length vs / ROWS_OF_A_PIECE + 1) * ROWS_OF_A_PIECE) vs all)
