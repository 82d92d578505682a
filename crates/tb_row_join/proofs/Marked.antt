-- Numbers with marks.
use Rattle.std.proofs.Common.{◌≡◌, ℕ, ℤ, ◌<◌, ◌==◌, ◌||◌, Bool, true, false, not, cond, pos, eqb-true, List, [], ◌∷◌, length, map, get_or, refl, ap, sym, ◌∙◌, arith, Option, Some, None, min}
use Rattle.std.specs.List.{zip}
use Rattle.std.proofs.lemmas.List.{length-map, get_or-map}
use Rattle.std.proofs.lemmas.Slice.Zip.{length-zip, get_or-zip}
use Rattle.std.specs.Ordering.{int_eq}
use Rattle.std.proofs.lemmas.Bool.Decides.{Decides-int_eq}
use Rattle.tb_value.specs.Promise.Datum.{Datum, null, int}
use Rattle.tb_value.specs.Promise.Same.{agrees}
use Rattle.tb_value.specs.declared.index.JoinPair.{JoinPair}
use Rattle.tb_cell.specs.Shown.{or_null}
use Rattle.tb_build.specs.Keys.{keys_match, rows_match}
use Rattle.tb_build.proofs.Lists.{get_or-map_any}
use Rattle.tb_frame.specs.declared.args.JoinType.{JoinType}
use Rattle.tb_frame.specs.Promise.Join.{listing_of}
use Rattle.tb_keys.specs.Promise.Listing.{value_listing}
use Rattle.tb_build.specs.KeyLists.{IsLent}
use Rattle.tb_row_join.specs.Marks.{is_there}
use Rattle.tb_row_join.specs.Promise.Rooms.{marked, are_marks}

-- there is a key, or none, for each number
pub marked-length : (numbers : List ℤ) (marks : List ℕ) → are_marks numbers marks ≡ true → length (marked numbers marks) ≡ length numbers
marked-length numbers [] fit = length-map numbers Some
marked-length numbers (m ∷ ms) fit =
    let same : length (m ∷ ms) ≡ length numbers = eqb-true (length (m ∷ ms)) (length numbers) fit in
    let least : min (length numbers) (length (m ∷ ms)) ≡ length numbers = omega (arith, same) in
    length-map (zip numbers (m ∷ ms)) _ ∙ length-zip numbers (m ∷ ms) ∙ least

-- without marks, or where the mark isn't 0, there is the number, and else none
pub marked-at : (numbers : List ℤ) (marks : List ℕ) (i : ℕ) (d : ℤ) → are_marks numbers marks ≡ true → i < length numbers
    → get_or (marked numbers marks) i None ≡ cond (is_there marks i) (Some (get_or numbers i d)) None
marked-at numbers [] i d fit low = get_or-map Some numbers i d None low
marked-at numbers (m ∷ ms) i d fit low =
    let same : length (m ∷ ms) ≡ length numbers = eqb-true (length (m ∷ ms)) (length numbers) fit in
    let long = length-zip numbers (m ∷ ms) in
    get_or-map (λ (n : ℤ × ℕ). cond (n.1 == 0) None (Some n.0)) (zip numbers (m ∷ ms)) i (d, 0) None (omega (arith, long, same, low))
    ∙ ap (λ (n : ℤ × ℕ). cond (n.1 == 0) None (Some n.0)) (get_or-zip numbers (m ∷ ms) i (d, 0) low (omega (arith, same, low)))
    ∙ turned (get_or (m ∷ ms) i 0 == 0)
  where
    turned : (b : Bool) → cond b None (Some (get_or numbers i d)) ≡ cond (not b) (Some (get_or numbers i d)) None
    turned true = refl
    turned false = refl

-- there is a mark for each number where there is one
pub mark-within : (numbers : List ℤ) (marks : List ℕ) (i : ℕ) → are_marks numbers marks ≡ true → i < length numbers → 0 < length marks → i < length marks
mark-within numbers [] i fit low some = absurd (omega (arith, some))
mark-within numbers (m ∷ ms) i fit low some =
    let same : length (m ∷ ms) ≡ length numbers = eqb-true (length (m ∷ ms)) (length numbers) fit in omega (arith, same, low)

-- a key that is there, or not, is the listed one
pub lent-same : (key listed : Option ℤ) → listed ≡ key → IsLent int_eq key listed
lent-same (Some z) listed e = ap (λ (o : Option ℤ). keys_match int_eq true (Some z) o) e ∙ (Decides-int_eq z z).1 refl
lent-same None listed e = ap (λ (o : Option ℤ). keys_match int_eq true None o) e

-- no marks fit
pub bare-fit : (numbers : List ℤ) (marks : List ℕ) → length marks ≡ 0 → are_marks numbers marks ≡ true
bare-fit numbers [] none = refl
bare-fit numbers (m ∷ ms) none = absurd (omega (arith, none))

pub some-fit : (numbers : List ℤ) (marks : List ℕ) → (length marks ≡ 0 → ⊥) → (length marks == length numbers) ≡ are_marks numbers marks
some-fit numbers [] some = absurd (some refl)
some-fit numbers (m ∷ ms) some = refl

pub bare-there : (marks : List ℕ) (row : ℕ) → length marks ≡ 0 → is_there marks row ≡ true
bare-there [] row none = refl
bare-there (m ∷ ms) row none = absurd (omega (arith, none))

pub some-there : (marks : List ℕ) (row : ℕ) → (length marks ≡ 0 → ⊥) → not (get_or marks row 0 == 0) ≡ is_there marks row
some-there [] row some = absurd (some refl)
some-there (m ∷ ms) row some = refl

-- two keys match where their values agree
keys-agree : (nulls : Bool) (x y : Option ℤ) → keys_match int_eq nulls x y ≡ agrees nulls (or_null int x) (or_null int y)
keys-agree nulls None None = refl
keys-agree nulls None (Some y) = refl
keys-agree nulls (Some x) None = refl
keys-agree nulls (Some x) (Some y) = sym (or_false (int_eq x y))
  where
    or_false : (b : Bool) → (b || false) ≡ b
    or_false true = refl
    or_false false = refl

-- the listing of two lists of keys is that of their values
pub listed-values : (nulls : Bool) (how : JoinType) (a b : List (Option ℤ)) → listing_of how (length a) (length b) (rows_match int_eq nulls a b) ≡ value_listing nulls how (map (or_null int) a) (map (or_null int) b)
listed-values nulls how a b =
    ◌∙◌ {A = List JoinPair}
    (λ t. listing_of how (sym (length-map a (or_null int)) t) (sym (length-map b (or_null int)) t) (λ i j. keys-agree nulls (get_or a i None) (get_or b j None) t))
    (λ t. listing_of how (length (map (or_null int) a)) (length (map (or_null int) b)) (λ i j. agrees nulls (sym (get_or-map_any (or_null int) a i None) t) (sym (get_or-map_any (or_null int) b j None) t)))
