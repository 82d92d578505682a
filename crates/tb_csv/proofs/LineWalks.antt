-- Walks over the bytes of a text to a place.
use Rattle.std.proofs.Common.{◌≡◌, ◌<◌, ◌≤◌, ◌+◌, ◌∷◌, ◌++◌, ◌∙◌, [], ℕ, zero, suc, List, Bool, true, false, Option, Some, None, cond, length, drop, get_or, refl, ap, arith}
use Rattle.std.specs.Prelude.{count_by, slice_get}
use Rattle.std.specs.List.{fold, range_with_len}
use Rattle.std.proofs.lemmas.List.{drop_all, drop_more}
use Rattle.csv.specs.Machine.{step}
use Rattle.csv.specs.declared.parser.Config.{Config}
use Rattle.csv.specs.declared.parser.State.{State}
use Rattle.std.proofs.lemmas.List.Sums.{sum_by-append, sum_by-cons}
use Rattle.tb_value.specs.Promise.Pairs.{row_numbers}
use Rattle.tb_csv.specs.Promise.LineNumbers.{ends_line, line_at, places_from}

-- one more byte, which is chosen or not
pub places_step : (p : State → State → Bool) (cfg : Config) (s : State) (xs : List ℕ) (i : ℕ) (b : Bool) → i < length xs → b ≡ p s (step cfg s (get_or xs i 0)).0
    → places_from p cfg s i (drop i xs) ≡ cond b (i ∷ places_from p cfg (step cfg s (get_or xs i 0)).0 (i + 1) (drop (i + 1) xs)) (places_from p cfg (step cfg s (get_or xs i 0)).0 (i + 1) (drop (i + 1) xs))
unfolding places_from
places_step p cfg s xs i b low is = rw (drop_more xs i 0 low, is) refl

-- no byte is left
pub places_end : (p : State → State → Bool) (cfg : Config) (s : State) (xs : List ℕ) (i : ℕ) (past : length xs ≤ i) → places_from p cfg s i (drop i xs) ≡ []
unfolding places_from
places_end p cfg s xs i past = rw (drop_all i xs past) refl

-- A PLACE AMONG THOSE THAT ARE CHOSEN

module _ (p : State → State → Bool) (cfg : Config) (s t : State) (xs : List ℕ) (i : ℕ) (low : i < length xs) (next : t ≡ (step cfg s (get_or xs i 0)).0) (b : Bool) (is : b ≡ p s t) where
  abbrev here : List ℕ
  here = places_from p cfg s i (drop i xs)

  abbrev behind : List ℕ
  behind = places_from p cfg t (i + 1) (drop (i + 1) xs)

  pub turn : here ≡ cond b (i ∷ behind) behind
  turn = rw next (places_step p cfg s xs i b low (rw (← next) is))

  pub found_here : (n : ℕ) (total : Option ℕ) → b ≡ true → n ≡ 0 → slice_get here n ≡ total → Some i ≡ total
  found_here n total chosen none so_far = rw (turn, chosen, none) at so_far

  pub one_less : (n m : ℕ) (total : Option ℕ) → b ≡ true → 0 < n → m + 1 ≡ n → slice_get here n ≡ total → slice_get behind m ≡ total
  one_less n m total chosen some less so_far =
      let more : n ≡ suc m = omega arith in rw (turn, chosen, more) at so_far

  pub passed : (n : ℕ) (total : Option ℕ) → b ≡ false → slice_get here n ≡ total → slice_get behind n ≡ total
  passed n total other so_far = rw (turn, other) at so_far

  abbrev pub later : Option ℕ → List ℕ → Option ℕ
  later o places = fold (λ (found : Option ℕ) k. Some k) o places

  pub later_here : (o : Option ℕ) (total : Option ℕ) → b ≡ true → later o here ≡ total → later (Some i) behind ≡ total
  later_here o total chosen so_far = rw (turn, chosen) at so_far

  pub later_passed : (o : Option ℕ) (total : Option ℕ) → b ≡ false → later o here ≡ total → later o behind ≡ total
  later_passed o total other so_far = rw (turn, other) at so_far

pub none_there : (p : State → State → Bool) (cfg : Config) (s : State) (xs : List ℕ) (i n : ℕ) (total : Option ℕ) → length xs ≤ i → slice_get (places_from p cfg s i (drop i xs)) n ≡ total → None ≡ total
none_there p cfg s xs i n total past so_far = rw (places_end p cfg s xs i past) at so_far

pub last_there : (p : State → State → Bool) (cfg : Config) (s : State) (xs : List ℕ) (i : ℕ) (o total : Option ℕ) → length xs ≤ i → fold (λ (found : Option ℕ) k. Some k) o (places_from p cfg s i (drop i xs)) ≡ total → o ≡ total
last_there p cfg s xs i o total past so_far = rw (places_end p cfg s xs i past) at so_far

-- LINES

pub range_more : (a n : ℕ) → range_with_len a (n + 1) ≡ range_with_len a n ++ (a + n) ∷ []
range_more a zero = let at : a + 0 ≡ a = omega arith in rw at refl
range_more a (suc n) =
    let more : suc n + 1 ≡ suc (n + 1) = omega arith in
    let at : a + suc n ≡ (a + 1) + n = omega arith in
    rw (more, at) (ap (λ (l : List ℕ). a ∷ l) (range_more (a + 1) n))

count_more : (p : ℕ → Bool) (n : ℕ) → count_by p (row_numbers (n + 1)) ≡ count_by p (row_numbers n) + cond (p n) 1 0
count_more p n =
    let at : 0 + n ≡ n = omega arith in
    let f = λ (x : ℕ). cond (p x) 1 0 in
    ap (count_by p) (range_more 0 n ∙ ap (λ (k : ℕ). range_with_len 0 n ++ k ∷ []) at) ∙ sum_by-append f (range_with_len 0 n) (n ∷ [])
    ∙ omega (arith, sum_by-cons f n [])

pub line_more : (xs : List ℕ) (i old new : ℕ) (b : Bool) → b ≡ ends_line xs i → new ≡ cond b (old + 1) old → (old ≡ line_at xs i) × (old ≤ i + 1) → (new ≡ line_at xs (i + 1)) × (new ≤ (i + 1) + 1)
line_more xs i old new true is next so_far =
    let more = rw (← is) at (count_more (ends_line xs) i) in (omega arith, omega arith)
line_more xs i old new false is next so_far =
    let more = rw (← is) at (count_more (ends_line xs) i) in (omega arith, omega arith)
