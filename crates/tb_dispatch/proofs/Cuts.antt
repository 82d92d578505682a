-- Parts of lists, and of rows that rise.
use Rattle.std.proofs.Common.{◌≡◌, ◌≤◌, ◌<◌, ◌+◌, ◌-◌, ◌∙◌, ℕ, zero, suc, List, [], ◌∷◌, length, map, take, drop, refl, ap, sym, arith, ℤ, Option, Some, None}
use Rattle.std.specs.Prelude.{All}
use Rattle.std.proofs.lemmas.List.{drop-map, length-drop, length-map, length-take, nil_from_length}
use Rattle.std.proofs.lemmas.List.Elements.{All-head, All-tail, All-weaker}
use Rattle.std.proofs.lemmas.List.Sorted.{length_permutation}
use Rattle.tb_value.specs.declared.index.JoinPair.{JoinPair}
use Rattle.tb_value.proofs.Ascending.{Ascends_by, Ascends_by-from_pairs}
use Rattle.tb_chunk.specs.Window.{part_from, part_to, window}
use Rattle.tb_frame.specs.Answer.{ArePairsOf}
use Rattle.tb_frame.specs.Promise.Join.{Request, cut, listing}
use Rattle.tb_frame.proofs.Windows.{slice_window}
use Rattle.tb_dispatch.specs.Rows.{Rise}

take-map : {X Y : Type 0} (f : X → Y) (n : ℕ) (xs : List X) → take n (map f xs) ≡ map f (take n xs)
take-map f zero [] = refl
take-map f zero (x ∷ xs) = refl
take-map f (suc n) [] = refl
take-map {X} {Y} f (suc n) (x ∷ xs) = ap (λ (ys : List Y). f x ∷ ys) (take-map f n xs)

-- what is seen of a part is a part of what is seen
pub cut-map : {X Y : Type 0} (f : X → Y) (s : Option (ℤ × ℕ)) (xs : List X) → cut s (map f xs) ≡ map f (cut s xs)
cut-map f None xs = refl
cut-map {X} {Y} f (Some s) xs =
    let n = length xs in
    let from = part_from n s.0 in
    let count = part_to n s.0 s.1 - from in
    slice_window (map f xs) s.0 s.1
    ∙ ap (λ (k : ℕ). window k s.0 s.1 (map f xs)) (length-map xs f)
    ∙ ap (take count) (drop-map f from xs)
    ∙ take-map f count (drop from xs)
    ∙ sym (ap (map f) (slice_window xs s.0 s.1))

-- a part is no longer than the list
pub cut_short : {X : Type 0} (s : Option (ℤ × ℕ)) (xs : List X) → length (cut s xs) ≤ length xs
cut_short None xs = omega arith
cut_short {X} (Some s) xs =
    let n = part_to (length xs) s.0 s.1 - part_from (length xs) s.0 in
    let rest = drop (part_from (length xs) s.0) xs in
    let is = ap (λ (ys : List X). length ys) (slice_window xs s.0 s.1) in
    omega (arith, is, length-take n rest, length-drop (part_from (length xs) s.0) xs)

-- where nothing is listed, nothing is kept
pub none_listed : (q : Request) (items : List JoinPair) → listing q ≡ [] → ArePairsOf q items → items ≡ []
none_listed q items none h =
    let long = ap (λ (xs : List JoinPair). length xs) h.is in
    let same = length_permutation (listing q) h.pairs h.ordered.permutation in
    let zero = ap (λ (xs : List JoinPair). length xs) none in
    nil_from_length items (omega (arith, long, same, zero, cut_short q.args.slice h.pairs))

-- numbers that rise are no more than there are below n
room : (lo n : ℕ) (xs : List ℕ) → lo ≤ n → Ascends_by ◌<◌ xs → All (λ x. lo ≤ x) xs → All (λ x. x < n) xs → length xs + lo ≤ n
room lo n [] le rise low high = omega (arith, le)
room lo n (x ∷ xs) le rise low high =
    let first : lo ≤ x = All-head (λ y. lo ≤ y) x xs low in
    let last : x < n = All-head (λ y. y < n) x xs high in
    let more = room (suc x) n xs (omega (arith, last)) rise.1 (All-weaker (λ y. x < y) (λ y. suc x ≤ y) (λ y h. omega (arith, h)) xs rise.0) (All-tail (λ y. y < n) x xs high) in
    omega (arith, first, more)

pub few_risen : (n : ℕ) (xs : List ℕ) → Rise xs → All (λ x. x < n) xs → length xs ≤ n
few_risen n xs rise high =
    let most = room 0 n xs (omega arith) (Ascends_by-from_pairs ◌<◌ xs rise) (λ k d low. omega arith) high in
    omega (arith, most)
