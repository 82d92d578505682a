-- The listing of a Right join by values is that of a Left join of the other side, turned round.
use Rattle.std.proofs.Common.{◌≡◌, ℕ, zero, suc, ◌+◌, ◌<◌, Bool, false, List, [], ◌∷◌, ◌++◌, length, get_or, set, take, drop, map, refl, sym, ap, ◌∙◌, arith}
use Rattle.std.specs.Prelude.{IsPermutation}
use Rattle.std.proofs.lemmas.List.{length-map}
use Rattle.std.proofs.lemmas.List.Sorted.{IsPermutation-map, IsPermutation-sym, IsPermutation-trans, length_permutation}
use Rattle.tb_value.specs.Promise.Datum.{Datum, null}
use Rattle.tb_value.specs.Promise.Pairs.{matched_pairs}
use Rattle.tb_value.specs.Pairs.{turn}
use Rattle.tb_value.specs.Promise.Same.{agrees}
use Rattle.tb_value.specs.declared.index.JoinPair.{JoinPair}
use Rattle.tb_frame.specs.declared.args.JoinType.TheVariants.{Inner, Left, Right}
use Rattle.tb_value.proofs.Loops.{turned_matches}
use Rattle.tb_frame.proofs.Turns.{agrees_symm, turned_listing}
use Rattle.tb_sorted.specs.Promise.Columns.{match_count, sizes_by, value_sizes}
use Rattle.tb_keys.specs.Promise.Listing.{value_listing}
use Rattle.tb_keys.specs.Causes.{too_many}

module _ (null_matches : Bool) (us vs : List Datum) where
  exchanged_listing : IsPermutation (map turn (value_listing null_matches Left vs us)) (value_listing null_matches Right us vs)
  exchanged_listing =
      turned_listing (length us) (length vs) (λ i j. agrees null_matches (get_or us i null) (get_or vs j null)) (λ j i. agrees null_matches (get_or vs j null) (get_or us i null))
      (λ t j i. agrees_symm null_matches (get_or vs j null) (get_or us i null) t)

  pub turned_pairs : (ps : List JoinPair) → IsPermutation (value_listing null_matches Left vs us) ps → IsPermutation (value_listing null_matches Right us vs) (map turn ps)
  turned_pairs ps h =
      IsPermutation-trans (value_listing null_matches Right us vs) (map turn (value_listing null_matches Left vs us)) (map turn ps)
      (IsPermutation-sym (map turn (value_listing null_matches Left vs us)) (value_listing null_matches Right us vs) exchanged_listing)
      (IsPermutation-map turn (value_listing null_matches Left vs us) ps h)

  pub as_many_turned : length (value_listing null_matches Left vs us) ≡ length (value_listing null_matches Right us vs)
  as_many_turned =
      sym (length-map (value_listing null_matches Left vs us) turn)
      ∙ sym (length_permutation (map turn (value_listing null_matches Left vs us)) (value_listing null_matches Right us vs) exchanged_listing)

  pub too_many_turned : too_many (length (value_listing null_matches Left vs us)) ≡ too_many (length (value_listing null_matches Right us vs))
  too_many_turned = ap too_many as_many_turned

-- as many rows match whichever side is the left one
pub sizes_turned : (us vs : List Datum) → value_sizes vs us ≡ sizes_by Right us vs
sizes_turned us vs =
    let here : ℕ → ℕ → Bool = λ i j. agrees false (get_or us i null) (get_or vs j null) in
    let there : List JoinPair = matched_pairs (length vs) (length us) (λ j i. here i j) in
    let same : value_listing false Inner vs us ≡ there = λ t. matched_pairs (length vs) (length us) (λ j i. agrees_symm false (get_or vs j null) (get_or us i null) t) in
    let many : match_count vs us ≡ match_count us vs =
    ap (λ (ps : List JoinPair). length ps) same ∙ sym (length-map there turn)
    ∙ sym (length_permutation (map turn there) (matched_pairs (length us) (length vs) here) (turned_matches (length us) (length vs) here)) in
    λ t. record { left_len = length vs; right_len = length us; pairs = many t }

-- IN PLACE

-- values of which the first are replaced by their images
abbrev pub mapped_so_far : {X : Type 0} → (X → X) → ℕ → List X → List X
mapped_so_far f i xs = map f (take i xs) ++ drop i xs

-- the one at the index isn't yet
pub mapped_here : {X : Type 0} (f : X → X) (xs : List X) (i : ℕ) (d : X) → get_or (mapped_so_far f i xs) i d ≡ get_or xs i d
mapped_here f [] zero d = refl
mapped_here f [] (suc i) d = refl
mapped_here f (x ∷ xs) zero d = refl
mapped_here f (x ∷ xs) (suc i) d = mapped_here f xs i d

pub mapped_long : {X : Type 0} (f : X → X) (xs : List X) (i : ℕ) → length (mapped_so_far f i xs) ≡ length xs
mapped_long f [] zero = refl
mapped_long f [] (suc i) = refl
mapped_long f (x ∷ xs) zero = refl
mapped_long f (x ∷ xs) (suc i) = ap suc (mapped_long f xs i)

mapped_next : {X : Type 0} (f : X → X) (xs : List X) (i : ℕ) (d : X) → i < length xs → set (mapped_so_far f i xs) i (f (get_or (mapped_so_far f i xs) i d)) ≡ mapped_so_far f (suc i) xs
mapped_next f [] i d low = absurd (omega arith)
mapped_next f (x ∷ xs) zero d low = refl
mapped_next f (x ∷ xs) (suc i) d low = ap (λ (l : List _). f x ∷ l) (mapped_next f xs i d (omega arith))

-- and one more
pub mapped_more : {X : Type 0} (f : X → X) (xs items : List X) (i : ℕ) (d : X) → items ≡ mapped_so_far f i xs → i < length items → set items i (f (get_or items i d)) ≡ mapped_so_far f (i + 1) xs
mapped_more f xs items i d is low =
    let long = ap (λ (l : List _). length l) is ∙ mapped_long f xs i in
    let next : suc i ≡ i + 1 = omega arith in
    ap (λ (l : List _). set l i (f (get_or l i d))) is ∙ mapped_next f xs i d (omega (arith, long, low)) ∙ ap (λ (n : ℕ). mapped_so_far f n xs) next
