-- Rows that are called by their own numbers, and the rows of a group.
use Rattle.std.proofs.Common.{◌≡◌, ◌∙◌, ◌<◌, ◌+◌, ℕ, Bool, List, [], ◌∷◌, get_or, length, map, refl, ap, arith}
use Rattle.std.proofs.lemmas.List.FromFn.{get_or-map-range_with_len, length-map-range_with_len}
use Rattle.tb_numbered.specs.Numbered.{grouped_rows, numbered_rows, row_from}
use Rattle.tb_rows.specs.InGroups.{named_rows}
use Rattle.tb_rows.specs.Names.{name_of}
use Rattle.tb_rows.specs.declared.names.RowNames.TheVariants.{From}

own : (j : ℕ) → 0 + j ≡ j
own j = omega arith

own_rows : (xs : List ℕ) → map (row_from 0) xs ≡ xs
own_rows [] = refl
own_rows (x ∷ xs) = λ t. own x t ∷ own_rows xs t

pub own_test : (test : ℕ → ℕ → Bool) → named_rows (name_of (From 0)) test ≡ test
own_test test = λ t a b. test (own a t) (own b t)

pub group_at : (members : List (List ℕ)) (numbers : List ℕ) (many group : ℕ) → members ≡ grouped_rows (row_from 0) numbers many → group < many
    → get_or members group [] ≡ numbered_rows numbers group
group_at members numbers many group is low =
    ap (λ m. get_or m group []) is ∙ get_or-map-range_with_len (λ d. map (row_from 0) (numbered_rows numbers d)) 0 many group group [] low (omega arith)
    ∙ own_rows (numbered_rows numbers group)

pub group_count : (members : List (List ℕ)) (numbers : List ℕ) (many : ℕ) → members ≡ grouped_rows (row_from 0) numbers many → length members ≡ many
group_count members numbers many is = ap length is ∙ length-map-range_with_len (λ d. map (row_from 0) (numbered_rows numbers d)) 0 many
