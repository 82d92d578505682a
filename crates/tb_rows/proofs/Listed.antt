-- Places of a list in groups, as the list's rows in groups.
use Rattle.std.proofs.Common.{◌≡◌, ◌∙◌, ℕ, Bool, not, List, [], ◌∷◌, filter, length, map, refl, sym, ap}
use Rattle.std.specs.Cmp.{IsEquivalence}
use Rattle.std.specs.Prelude.{slice_index_or}
use Rattle.std.proofs.lemmas.List.FromFn.{fill_by_all}
use Rattle.tb_rows.specs.InGroups.{firsts_in, groups_in, listed_test}
use Rattle.tb_value.proofs.Kept.{filter-map}
use Rattle.tb_value.specs.Promise.Pairs.{row_numbers}
use Rattle.tb_rows.specs.Promise.Rows.{first_rows}
use Rattle.tb_rows.proofs.FirstsIn.{firsts_of_all}

-- the first of some rows, by the tests of what is made of them
firsts_made : (test : ℕ → ℕ → Bool) (f : ℕ → ℕ) (xs : List ℕ) → map f (firsts_in (λ a b. test (f a) (f b)) xs) ≡ firsts_in test (map f xs)
firsts_made test f [] = refl
firsts_made test f (x ∷ xs) =
    ap (λ (l : List ℕ). f x ∷ l) (sym (filter-map f (λ y. not (test (f x) y)) (firsts_in (λ a b. test (f a) (f b)) xs)))
    ∙ ap (λ (l : List ℕ). f x ∷ filter (λ y. not (test (f x) y)) l) (firsts_made test f xs)

groups_made : (test : ℕ → ℕ → Bool) (f : ℕ → ℕ) (xs ys : List ℕ) → map (λ x. map f (filter (λ y. test (f x) (f y)) xs)) ys ≡ map (λ x. filter (test x) (map f xs)) (map f ys)
groups_made test f xs [] = refl
groups_made test f xs (y ∷ ys) =
    ap (λ (l : List ℕ). l ∷ map (λ x. map f (filter (λ z. test (f x) (f z)) xs)) ys) (sym (filter-map f (test (f y)) xs))
    ∙ ap (λ (l : List (List ℕ)). filter (test (f y)) (map f xs) ∷ l) (groups_made test f xs ys)

-- the rows at all places of a list
all_places : (rows : List ℕ) → map (λ j. slice_index_or rows j 0) (row_numbers (length rows)) ≡ rows
all_places rows = sym (fill_by_all (λ j. slice_index_or rows j 0) rows (length rows) 0 refl (λ k low. refl))

module _ (test : ℕ → ℕ → Bool) (same : IsEquivalence test) (rows : List ℕ) where
  abbrev pub row : ℕ → ℕ
  row j = slice_index_or rows j 0

  also : IsEquivalence (listed_test rows test)
  also = record {
    refl = λ a. same.refl (row a);
    symm = λ a b. same.symm (row a) (row b);
    congr = λ a b c. same.congr (row a) (row b) (row c);
  }

  firsts : first_rows (listed_test rows test) (length rows) ≡ firsts_in (listed_test rows test) (row_numbers (length rows))
  firsts = firsts_of_all (listed_test rows test) also (length rows)

  pub firsts_listed : map row (first_rows (listed_test rows test) (length rows)) ≡ firsts_in test rows
  firsts_listed = ap (map row) firsts ∙ firsts_made test row (row_numbers (length rows)) ∙ ap (firsts_in test) (all_places rows)

  pub groups_listed : map (λ x. map row (filter (listed_test rows test x) (row_numbers (length rows)))) (first_rows (listed_test rows test) (length rows)) ≡ groups_in test rows
  groups_listed =
      groups_made test row (row_numbers (length rows)) (first_rows (listed_test rows test) (length rows))
      ∙ (λ t. map (λ x. filter (test x) (all_places rows t)) (firsts_listed t))
