-- What the parts of a phase give, of which some have work.
use Rattle.std.proofs.Common.{◌≡◌, ◌∙◌, ◌<◌, ℕ, Bool, true, false, List, [], ◌∷◌, ◌++◌, append_assoc, Option, Some, None, cond, if◌then◌else◌, filter, length, map, refl, sym, ap, arith}
use Rattle.std.specs.List.{filter_map}
use Rattle.std.specs.Option.{option_map}
use Rattle.std.proofs.lemmas.List.{append-nil, get_or-map, length-map, same_lists}
use Rattle.std.proofs.lemmas.List.FromFn.{get_or-map-range_with_len, length-map-range_with_len}
use Rattle.tb_value.specs.Promise.Pairs.{row_numbers}
use Rattle.tb_value.proofs.Loops.{map-map}
use Rattle.tb_build.specs.Phases.{AreGiven}

-- what is there of a list of what may be there
there_of_map : {X Y : Type 0} (shown : X → Y) (os : List (Option X)) → map shown (filter_map (λ o. o) os) ≡ filter_map (λ o. o) (map (option_map shown) os)
there_of_map shown [] = refl
there_of_map shown (None ∷ os) = there_of_map shown os
there_of_map {X} {Y} shown (Some x ∷ os) = ap (λ (l : List Y). shown x ∷ l) (there_of_map shown os)

there_of_some : {Y : Type 0} (p : ℕ → Bool) (f : ℕ → Y) (xs : List ℕ) → filter_map (λ o. o) (map (λ x. if p x then Some (f x) else None) xs) ≡ map f (filter p xs)
there_of_some p f [] = refl
there_of_some {Y} p f (x ∷ xs) = by (p x) (there_of_some p f xs)
  where
    rest : List (Option Y)
    rest = map (λ y. if p y then Some (f y) else None) xs

    by : (b : Bool) → filter_map (λ o. o) rest ≡ map f (filter p xs)
        → filter_map (λ o. o) ((if b then Some (f x) else None) ∷ rest) ≡ map f (cond b (x ∷ filter p xs) (filter p xs))
    by true k = ap (λ (l : List Y). f x ∷ l) k
    by false k = k

module _ {O V : Type 0} (shown : O → V) (works : ℕ → Bool) (view : ℕ → V) (n : ℕ) (done : List (Option O))
    (given : AreGiven (λ p o. option_map shown o ≡ (if works p then Some (view p) else None)) n done) where
  abbrev at : ℕ → Option V
  at p = (if works p then Some (view p) else None)

  -- each part, as it is shown
  pub shown_are : map (option_map shown) done ≡ map at (row_numbers n)
  shown_are =
      let long : length (map (option_map shown) done) ≡ n = length-map done (option_map shown) ∙ given.count in
      same_lists (map (option_map shown) done) (map at (row_numbers n)) (long ∙ sym (length-map-range_with_len at 0 n)) (λ k d below.
      let low : k < n = omega (arith, below, long) in
      get_or-map (option_map shown) done k None d (omega (arith, low, given.count))
      ∙ given.each k None low
      ∙ sym (get_or-map-range_with_len at 0 n k k d low (omega arith)))

  -- those that have work
  pub views_are : map shown (filter_map (λ o. o) done) ≡ map view (filter works (row_numbers n))
  views_are = there_of_map shown done ∙ ap (filter_map (λ o. o)) shown_are ∙ there_of_some works view (row_numbers n)

  -- a number of each, which is that of what is shown
  pub counts_are : (count : Option O → ℕ) (of_view : Option V → ℕ) (due : ℕ → ℕ) → ((o : Option O) → count o ≡ of_view (option_map shown o)) → ((p : ℕ) → of_view (at p) ≡ due p)
      → map count done ≡ map due (row_numbers n)
  counts_are count of_view due by is =
      (λ t. map (λ o. by o t) done)
      ∙ sym (map-map of_view (option_map shown) done)
      ∙ ap (map of_view) shown_are
      ∙ map-map of_view at (row_numbers n)
      ∙ (λ t. map (λ p. is p t) (row_numbers n))

-- what a walk has put in, and what is left of it
module _ {X : Type 0} (there : List X) (left rest : List (Option X)) where
  pub some_left : (o : Option X) (x : X) → left ≡ o ∷ rest → o ≡ Some x → (there ++ x ∷ []) ++ filter_map (λ p. p) rest ≡ there ++ filter_map (λ p. p) left
  some_left o x is some = append_assoc there (x ∷ []) (filter_map (λ p. p) rest) ∙ sym (ap (λ (l : List (Option X)). there ++ filter_map (λ p. p) l) (is ∙ ap (λ (p : Option X). p ∷ rest) some))

  pub none_left : (o : Option X) → left ≡ o ∷ rest → o ≡ None → there ++ filter_map (λ p. p) rest ≡ there ++ filter_map (λ p. p) left
  none_left o is none = sym (ap (λ (l : List (Option X)). there ++ filter_map (λ p. p) l) (is ∙ ap (λ (p : Option X). p ∷ rest) none))

pub all_there : {X : Type 0} (there : List X) (left : List (Option X)) → length left ≡ 0 → there ≡ there ++ filter_map (λ p. p) left
all_there there [] e = sym (append-nil there)
all_there there (o ∷ left) e = absurd (omega (arith, e))
