-- Fields by their marks.
use Rattle.std.proofs.Common.{◌≡◌, ◌<◌, ◌++◌, ◌∷◌, ◌∙◌, [], ℕ, zero, suc, List, Bool, true, false, None, length, map, drop, get_or, refl, ap, arith}
use Rattle.std.specs.List.{All}
use Rattle.std.proofs.lemmas.List.Elements.{All-cons, All-head, All-nil, All-tail}
use Rattle.tb_csv.specs.Read.{all_fields}
use Rattle.tb_csv.specs.Promise.Records.{Line, Record, bytes_of, field, line_of, marked_fields, marked_records}

bytes_back : (q : Bool) (s : List ℕ) → bytes_of (field q s) ≡ s
bytes_back true [] = refl
bytes_back false [] = refl
bytes_back q (c ∷ cs) = refl

-- the marks forgotten
pub line_back : (qs : List Bool) (l : Line) → line_of (marked_fields qs l) ≡ l
line_back qs [] = refl
line_back [] (s ∷ ss) = ap (λ x. x ∷ line_of (marked_fields [] ss)) (bytes_back false s) ∙ ap (λ (k : Line). s ∷ k) (line_back [] ss)
line_back (q ∷ qs) (s ∷ ss) = ap (λ x. x ∷ line_of (marked_fields qs ss)) (bytes_back q s) ∙ ap (λ (k : Line). s ∷ k) (line_back qs ss)

pub lines_back : (qs : List Bool) (ls : List Line) → map line_of (marked_records qs ls) ≡ ls
lines_back qs [] = refl
lines_back qs (l ∷ ls) = ap (λ k. k ∷ map line_of (marked_records (drop (length l) qs) ls)) (line_back qs l) ∙ ap (λ (ks : List Line). l ∷ ks) (lines_back (drop (length l) qs) ls)

pub marked_length : (qs : List Bool) (l : Line) → length (marked_fields qs l) ≡ length l
marked_length qs [] = refl
marked_length [] (s ∷ ss) = ap suc (marked_length [] ss)
marked_length (q ∷ qs) (s ∷ ss) = ap suc (marked_length qs ss)

pub marked_level : (n : ℕ) (qs : List Bool) (ls : List Line) → All (λ (l : Line). length l ≡ n) ls → All (λ (r : Record). length r ≡ n) (marked_records qs ls)
marked_level n qs [] all = All-nil (λ (r : Record). length r ≡ n)
marked_level n qs (l ∷ ls) all =
    All-cons (λ (r : Record). length r ≡ n) (marked_fields qs l) (marked_records (drop (length l) qs) ls) (marked_length qs l ∙ All-head (λ (k : Line). length k ≡ n) l ls all)
    (marked_level n (drop (length l) qs) ls (All-tail (λ (k : Line). length k ≡ n) l ls all))

pub marked_height : (qs : List Bool) (ls : List Line) → length (marked_records qs ls) ≡ length ls
marked_height qs [] = refl
marked_height qs (l ∷ ls) = ap suc (marked_height (drop (length l) qs) ls)

no_drop : (n : ℕ) → drop {A = Bool} n [] ≡ []
no_drop zero = refl
no_drop (suc n) = refl

-- the marks go on from one line to the next
marked_append : (qs : List Bool) (k l : Line) → marked_fields qs (k ++ l) ≡ marked_fields qs k ++ marked_fields (drop (length k) qs) l
marked_append qs [] l = refl
marked_append [] (s ∷ ss) l = ap (λ (r : Record). field false s ∷ r) (marked_append [] ss l ∙ ap (λ qs. marked_fields [] ss ++ marked_fields qs l) (no_drop (length ss)))
marked_append (q ∷ qs) (s ∷ ss) l = ap (λ (r : Record). field q s ∷ r) (marked_append qs ss l)

pub marked_all : (qs : List Bool) (ls : List Line) → marked_fields qs (all_fields ls) ≡ all_fields (marked_records qs ls)
marked_all qs [] = refl
marked_all qs (l ∷ ls) = marked_append qs l (all_fields ls) ∙ ap (λ (r : Record). marked_fields qs l ++ r) (marked_all (drop (length l) qs) ls)

-- the field at a place
pub marked_at : (qs : List Bool) (l : Line) (i : ℕ) → i < length l → get_or (marked_fields qs l) i None ≡ field (get_or qs i false) (get_or l i [])
marked_at qs [] i low = absurd (omega (arith, low))
marked_at [] (s ∷ ss) zero low = refl
marked_at [] (s ∷ ss) (suc i) low = marked_at [] ss i (omega (arith, low))
marked_at (q ∷ qs) (s ∷ ss) zero low = refl
marked_at (q ∷ qs) (s ∷ ss) (suc i) low = marked_at qs ss i (omega (arith, low))
