-- Scattered rows, and where each part begins.
use Rattle.std.proofs.Common.{◌≡◌, ◌∙◌, ◌+◌, ◌-◌, ◌<◌, ◌≤◌, ℕ, List, drop, get_or, length, length-append, map, take, sym, ap, arith}
use Rattle.std.specs.List.{flat_map}
use Rattle.std.proofs.lemmas.List.{same_lists}
use Rattle.std.proofs.lemmas.List.FromFn.{get_or-map-range_with_len, length-map-range_with_len}
use Rattle.tb_value.specs.Promise.Pairs.{row_numbers}
use Rattle.tb_build.specs.Plan.{part_start, scattered_rows}
use Rattle.tb_build.specs.Promise.Plan.{part_rows, part_sizes}
use Rattle.tb_build.proofs.Lists.{flat_map-before, flat_map-more, flat_map-piece}
use Rattle.tb_group.specs.Parts.{rows_of_part, IsPart}
use Rattle.tb_group.specs.Trace.{lengths_between}

-- functions that agree below n give the same of n row numbers
pub map_below : {X : Type 0} (f g : ℕ → X) (n : ℕ) → ((k : ℕ) → k < n → f k ≡ g k) → map f (row_numbers n) ≡ map g (row_numbers n)
map_below f g n agree = same_lists (map f (row_numbers n)) (map g (row_numbers n)) (length-map-range_with_len f 0 n ∙ sym (length-map-range_with_len g 0 n)) (λ k d below.
    let low : k < n = omega (arith, below, length-map-range_with_len f 0 n) in
    get_or-map-range_with_len f 0 n k k d low (omega arith) ∙ agree k low ∙ sym (get_or-map-range_with_len g 0 n k k d low (omega arith)))

module _ (codes : List ℕ) (n : ℕ) where
  -- a part begins behind the rows of those before it
  start_more : (p : ℕ) → part_start codes n (p + 1) ≡ part_start codes n p + length (part_rows codes n p)
  start_more p = ap length (flat_map-more (part_rows codes n) p) ∙ length-append (flat_map (part_rows codes n) (row_numbers p)) (part_rows codes n p)

  module _ (idxs starts : List ℕ) (rows : idxs ≡ scattered_rows codes n) (begin : starts ≡ map (part_start codes n) (row_numbers (n + 1))) where
    start_at : (p : ℕ) → p ≤ n → get_or starts p 0 ≡ part_start codes n p
    start_at p low = ap (λ (l : List ℕ). get_or l p 0) begin ∙ get_or-map-range_with_len (part_start codes n) 0 (n + 1) p p 0 (omega (arith, low)) (omega arith)

    pub many : length starts ≡ n + 1
    many = ap length begin ∙ length-map-range_with_len (part_start codes n) 0 (n + 1)

    next_at : (p : ℕ) → p < n → get_or starts (p + 1) 0 ≡ part_start codes n p + length (part_rows codes n p)
    next_at p low = start_at (p + 1) (omega (arith, low)) ∙ start_more p

    long_at : (p : ℕ) → p < n → get_or starts (p + 1) 0 - get_or starts p 0 ≡ length (part_rows codes n p)
    long_at p low = omega (arith, next_at p low, start_at p (omega (arith, low)))

    pub is_part : (p : ℕ) → p < n → IsPart starts idxs p
    is_part p low = record {
      there = omega (arith, low, many);
      ordered = omega (arith, next_at p low, start_at p (omega (arith, low)));
      within = omega (arith, start_at (p + 1) (omega (arith, low)), flat_map-before (part_rows codes n) n (p + 1) (omega (arith, low)), ap length rows);
    }

    pub rows_are : (p : ℕ) → p < n → rows_of_part idxs starts p ≡ part_rows codes n p
    rows_are p low =
        (λ t. take (long_at p low t) (drop (start_at p (omega (arith, low)) t) (rows t)))
        ∙ flat_map-piece (part_rows codes n) n p low

    pub in_order : (p : ℕ) → p + 1 < length starts → get_or starts p 0 ≤ get_or starts (p + 1) 0
    in_order p low = (is_part p (omega (arith, low, many))).ordered

    pub sizes_are : lengths_between starts ≡ part_sizes codes n
    sizes_are =
        let count : length starts - 1 ≡ n = omega (arith, many) in
        ap (λ (m : ℕ). map (λ p. get_or starts (p + 1) 0 - get_or starts p 0) (row_numbers m)) count
        ∙ map_below (λ p. get_or starts (p + 1) 0 - get_or starts p 0) (λ p. length (part_rows codes n p)) n long_at
