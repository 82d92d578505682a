-- Rows that are written in pieces.
use Rattle.std.proofs.Common.{◌≡◌, ◌≤◌, ◌+◌, ◌*◌, ◌-◌, ◌/◌, ◌∙◌, ◌∷◌, ◌++◌, [], ℕ, zero, suc, List, map, min, refl, sym, ap, subst, arith}
use Rattle.std.proofs.Common.{Ok, Err}
use Rattle.std.specs.List.{AllZip, Contains, flat_map, range_with_len}
use Rattle.std.specs.Result.{IfOk, MatchResult}
use Rattle.std.specs.declared.result.Result.{Result}
use Rattle.std.proofs.lemmas.List.{append-nil}
use Rattle.std.proofs.lemmas.Grind.{flat_map-append}
use Rattle.tb_value.specs.Promise.Pairs.{row_numbers}
use Rattle.tb_value.proofs.RowNumbers.{range_cut, row_numbers_more}
use Rattle.tb_pieces.specs.Rows.{piece_bytes, rows_bytes}
use Rattle.tb_pieces.specs.declared.pieces.TheConstants.{ROWS_OF_A_PIECE}

module _ (row : ℕ → List ℕ) where
  -- rows one behind the other
  rows_behind : (a m n : ℕ) → rows_bytes row a m ++ rows_bytes row (a + m) n ≡ rows_bytes row a (m + n)
  rows_behind a m n = sym (flat_map-append row (range_with_len a m) (range_with_len (a + m) n)) ∙ ap (flat_map row) (sym (range_cut a m n))

  -- the text grows by that of a row
  pub rows_more : (a i : ℕ) (so_far new : List ℕ) → a ≤ i → new ≡ so_far ++ row i → so_far ≡ rows_bytes row a (i - a) → new ≡ rows_bytes row a (i + 1 - a)
  rows_more a i so_far new low push before =
      let at : a + (i - a) ≡ i = omega (arith, low) in
      let more : (i - a) + 1 ≡ i + 1 - a = omega (arith, low) in
      push ∙ ap (λ s. s ++ row i) before
      ∙ ap (λ s. rows_bytes row a (i - a) ++ s) (sym (append-nil (row i)))
      ∙ ap (λ k. rows_bytes row a (i - a) ++ rows_bytes row k 1) (sym at)
      ∙ rows_behind a (i - a) 1
      ∙ ap (rows_bytes row a) more

  -- the first so many pieces are the rows before the next one
  first_pieces : (height n : ℕ) → n * ROWS_OF_A_PIECE ≤ height + ROWS_OF_A_PIECE → flat_map (piece_bytes row height) (row_numbers n) ≡ rows_bytes row 0 (min (n * ROWS_OF_A_PIECE) height)
  first_pieces height zero low =
      let none : min (zero * ROWS_OF_A_PIECE) height ≡ zero = omega arith in
      ap (rows_bytes row 0) (sym none)
  first_pieces height (suc n) low =
      let here : n * ROWS_OF_A_PIECE ≤ height = omega (arith, low) in
      let before = first_pieces height n (omega (arith, here)) in
      let more : suc n ≡ n + 1 = omega arith in
      let done : min (n * ROWS_OF_A_PIECE) height ≡ n * ROWS_OF_A_PIECE = omega (arith, here) in
      let from : 0 + n * ROWS_OF_A_PIECE ≡ n * ROWS_OF_A_PIECE = omega arith in
      let all : n * ROWS_OF_A_PIECE + min ROWS_OF_A_PIECE (height - n * ROWS_OF_A_PIECE) ≡ min (suc n * ROWS_OF_A_PIECE) height = omega (arith, here) in
      let piece = piece_bytes row height in
      ap (λ k. flat_map piece (row_numbers k)) more
      ∙ ap (flat_map piece) (row_numbers_more n)
      ∙ flat_map-append piece (row_numbers n) (n ∷ [])
      ∙ ap (λ l. flat_map piece (row_numbers n) ++ l) (append-nil (piece n))
      ∙ ap (λ l. l ++ piece n) (before ∙ ap (rows_bytes row 0) done)
      ∙ ap (λ a. rows_bytes row 0 (n * ROWS_OF_A_PIECE) ++ rows_bytes row a (min ROWS_OF_A_PIECE (height - n * ROWS_OF_A_PIECE))) (sym from)
      ∙ rows_behind 0 (n * ROWS_OF_A_PIECE) (min ROWS_OF_A_PIECE (height - n * ROWS_OF_A_PIECE))
      ∙ ap (rows_bytes row 0) all

  -- all pieces are all rows
  pub all_pieces : (height : ℕ) → flat_map (piece_bytes row height) (row_numbers (height / ROWS_OF_A_PIECE + 1)) ≡ flat_map row (row_numbers height)
  all_pieces height =
      let low : (height / ROWS_OF_A_PIECE + 1) * ROWS_OF_A_PIECE ≤ height + ROWS_OF_A_PIECE = omega arith in
      let all : min ((height / ROWS_OF_A_PIECE + 1) * ROWS_OF_A_PIECE) height ≡ height = omega arith in
      first_pieces height (height / ROWS_OF_A_PIECE + 1) low ∙ ap (rows_bytes row 0) all

flat_of_map : {X : Type 0} (f : X → List ℕ) (xs : List X) → flat_map f xs ≡ flat_map (λ s. s) (map f xs)
flat_of_map f [] = refl
flat_of_map f (x ∷ xs) = ap (λ s. f x ++ s) (flat_of_map f xs)

-- pieces one behind another
pub in_pieces : {V : Type 0} (items : V → List ℕ) (f : ℕ → List ℕ) (ks : List ℕ) (vs : List V) → map items vs ≡ map f ks → flat_map items vs ≡ flat_map f ks
in_pieces items f ks vs are = flat_of_map items vs ∙ ap (flat_map (λ s. s)) are ∙ sym (flat_of_map f ks)

-- what is made of the answers of threads by number, each of which is a text or want of memory
answered : {V : Type 0} (E : Type 0) (items : V → List ℕ) (f : ℕ → List ℕ) (ks : List ℕ) (ys : List V)
    → AllZip (λ k (u : Result V E). IfOk u (λ y. items y ≡ f k)) ks (map Ok ys) → map items ys ≡ map f ks
answered E items f [] [] h = refl
answered E items f [] (y ∷ ys) h = absurd h
answered E items f (k ∷ ks) [] h = absurd h
answered E items f (k ∷ ks) (y ∷ ys) h = (λ i. h.0 i ∷ answered E items f ks ys h.1 i)

chained : {V W E : Type 0} (items : V → List ℕ) (all : W → List V) (f : ℕ → List ℕ) (ks : List ℕ) (us : List (Result V E)) (r : Result W E)
    → AllZip (λ k (u : Result V E). IfOk u (λ y. items y ≡ f k)) ks us
    → MatchResult r (λ w. (ys : List V) × (us ≡ map Ok ys) × (all w ≡ ys)) (λ e. Contains us (Err e)) → IfOk r (λ w. map items (all w) ≡ map f ks)
chained items all f ks us (Err e) zipped made = tt
chained items all f ks us (Ok w) zipped made =
    ap (map items) made.2 ∙ answered _ items f ks made.0 (subst (AllZip (λ k u. IfOk u (λ y. items y ≡ f k)) ks) made.1 zipped)

-- the same, where the texts are those of any rows that the threads were given
of_rows : {V E : Type 0} (items : V → List ℕ) (Given : (ℕ → List ℕ) → Type 0) (f : (ℕ → List ℕ) → ℕ → List ℕ) (row : ℕ → List ℕ) → Given row → (ks : List ℕ) (us : List (Result V E))
    → AllZip (λ k (u : Result V E). (row : ℕ → List ℕ) → Given row → IfOk u (λ y. items y ≡ f row k)) ks us → AllZip (λ k (u : Result V E). IfOk u (λ y. items y ≡ f row k)) ks us
of_rows items Given f row given [] [] h = tt
of_rows items Given f row given [] (u ∷ us) h = absurd h
of_rows items Given f row given (k ∷ ks) [] h = absurd h
of_rows items Given f row given (k ∷ ks) (u ∷ us) h = (h.0 row given, of_rows items Given f row given ks us h.1)

pub rows_chained : {V W E : Type 0} (items : V → List ℕ) (all : W → List V) (Given : (ℕ → List ℕ) → Type 0) (f : (ℕ → List ℕ) → ℕ → List ℕ) (ks : List ℕ) (us : List (Result V E)) (r : Result W E)
    → AllZip (λ k (u : Result V E). (row : ℕ → List ℕ) → Given row → IfOk u (λ y. items y ≡ f row k)) ks us
    → MatchResult r (λ w. (ys : List V) × (us ≡ map Ok ys) × (all w ≡ ys)) (λ e. Contains us (Err e))
    → (row : ℕ → List ℕ) → Given row → IfOk r (λ w. map items (all w) ≡ map (f row) ks)
rows_chained items all Given f ks us r zipped made row given = chained items all (f row) ks us r (of_rows items Given f row given ks us zipped) made
