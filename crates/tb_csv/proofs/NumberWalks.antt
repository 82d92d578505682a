-- Whole numbers in place of fields.
use Rattle.std.proofs.Common.{◌≡◌, ◌<◌, ◌==◌, ◌+◌, ◌/◌, ◌%◌, ◌++◌, ◌∷◌, ◌∙◌, [], ℕ, ℤ, pos, negsuc, Bor, List, Option, Some, None, option_map, arith, false, get_or, length, map, refl, suc, sym, zero, ap, FitsSigned, Bool, true, true≢false, inl, inr}
use Rattle.std.specs.List.{list_all}
use Rattle.std.specs.Int.{w64}
use Rattle.std.specs.Fmt.{decimal, digit_glyph, digits, digits_onto, signed_decimal}
use Rattle.std.proofs.lemmas.Bool.{cases_Bool}
use Rattle.std.specs.Str.{IsAscii, is_utf8}
use Rattle.std.proofs.lemmas.Str.{IsUtf8-from_ascii, is_utf8-from_IsUtf8}
use Rattle.std.proofs.lemmas.Str.Ascii.{IsAscii-cons}
use Rattle.std.proofs.lemmas.Bool.Decides.{nat_tests}
use Rattle.std.proofs.lemmas.Int.{ints}
use Rattle.std.proofs.lemmas.List.Folds.{list_all-append, list_all_at}
use Rattle.std.proofs.lemmas.List.{get_or-map, length-map, map_push}
use Rattle.std.proofs.lemmas.List.FromFn.{fill_by_all, map-range_with_len_more}
use Rattle.tb_value.specs.Promise.Datum.{int}
use Rattle.tb_value.specs.Promise.Pairs.{row_numbers}
use Rattle.tb_chunk.specs.Chunk.{or_null}
use Rattle.tb_label.specs.Promise.Numerals.{whole_in}
use Rattle.tb_csv.specs.Numbers.{number_field, number_fields}
use Rattle.tb_csv.specs.Read.{is_text_field}
use Rattle.tb_csv.specs.declared.numbers.Numbers.{Numbers}
use Rattle.tb_csv.specs.declared.numbers.Numbers.TheVariants as numbers
use Rattle.tb_csv.specs.Promise.Types.{cell_value, field_value}
use Rattle.tb_csv.specs.declared.field_type.FieldType.{FieldType}
use Rattle.tb_csv.proofs.CellsBack.{IsBelow, number_long, present, whole_back}
use Rattle.tb_csv.proofs.Spelled.{spelled}

-- ONE NUMBER

-- a field that is read as a number is what the number is written as
pub number_read : (s : List ℕ) (z : ℤ) → whole_in s ≡ Some z → FitsSigned w64 z → number_field (int z) ≡ Some s
number_read s z read fit = ap (λ (t : List ℕ). Some t) (spelled s z read fit)

below : (z : ℤ) → FitsSigned w64 z → IsBelow z
below (pos n) fit = omega (arith, ints, fit.sfits)
below (negsuc n) fit = omega (arith, ints, fit.sfits)

-- and reads as it
pub number_back : (z : ℤ) → FitsSigned w64 z → whole_in (signed_decimal z) ≡ Some z
number_back z fit = whole_back z (below z fit)

-- its text is read as a text with a byte is
pub number_value : (t : FieldType) (z : ℤ) → FitsSigned w64 z → cell_value t (number_field (int z)) ≡ field_value t (signed_decimal z)
number_value t z fit = present t (signed_decimal z) (number_long z (below z fit))

-- TEXTS OF NUMBERS

digits_ascii : (k n : ℕ) (ds : List ℕ) → IsAscii ds → IsAscii (digits_onto k 10 false n ds)
digits_ascii zero n ds h = h
digits_ascii (suc k) n ds h =
    let glyph : digit_glyph false (n % 10) < 128 = grind (arith, nat_tests) in
    let more : IsAscii (digit_glyph false (n % 10) ∷ ds) = IsAscii-cons (digit_glyph false (n % 10)) ds glyph h in
    elim (cases_Bool (n / 10 == 0)) [ inl end ↦ rw end more | inr on ↦ rw on (digits_ascii k (n / 10) (digit_glyph false (n % 10) ∷ ds) more) ]

decimal_ascii : (n : ℕ) → IsAscii (decimal n)
unfolding digits
decimal_ascii n = digits_ascii 64 n [] (λ i. omega arith)

signed_ascii : (z : ℤ) → IsAscii (signed_decimal z)
signed_ascii (pos n) = decimal_ascii n
signed_ascii (negsuc n) = IsAscii-cons 45 (decimal (suc n)) (omega arith) (decimal_ascii (suc n))

ascii_text : (s : List ℕ) → IsAscii s → is_utf8 s ≡ true
ascii_text s h = is_utf8-from_IsUtf8 s (IsUtf8-from_ascii s h)

-- an absent field has no byte
pub no_text : is_utf8 [] ≡ true
no_text = ascii_text [] (λ i. omega arith)

number_text : (n : Option ℤ) → is_text_field (number_field (or_null int n)) ≡ true
number_text None = no_text
number_text (Some z) = ascii_text (signed_decimal z) (signed_ascii z)

texts_of : (ns : List (Option ℤ)) → list_all is_text_field (map number_field (map (or_null int) ns)) ≡ true
texts_of [] = refl
texts_of (n ∷ ns) = rw (number_text n) (texts_of ns)

-- the fields that numbers are written as are texts
pub numbers_text : (n : Numbers) → list_all is_text_field (number_fields n) ≡ true
numbers_text (numbers.Narrow cells) = texts_of cells
numbers_text (numbers.Wide cells) = texts_of cells

-- LISTS THAT ARE FILLED

-- one more place is filled
pub filled_more : {X Y : Type 0} (g : X → Y) (f : ℕ → Y) (n : ℕ) (xs new : List X) (x : X) → new ≡ xs ++ x ∷ [] → g x ≡ f n → map g xs ≡ map f (row_numbers n) → map g new ≡ map f (row_numbers (n + 1))
filled_more g f n xs new x push at so_far =
    let end : 0 + n ≡ n = omega arith in
    ap (map g) push ∙ map_push g xs x ∙ ap (λ ys. ys ++ g x ∷ []) so_far ∙ ap (λ y. map f (row_numbers n) ++ y ∷ []) at ∙ sym (map-range_with_len_more f 0 n n end)

-- one more of which something holds
pub all_filled : {X Y : Type 0} (p : Y → Bool) (g : X → Y) (xs new : List X) (x : X) → new ≡ xs ++ x ∷ [] → p (g x) ≡ true → list_all p (map g xs) ≡ true → list_all p (map g new) ≡ true
all_filled p g xs new x push at so_far =
    ap (λ l. list_all p (map g l)) push ∙ ap (list_all p) (map_push g xs x) ∙ list_all-append p (map g xs) (g x ∷ []) ∙ rw (so_far, at) refl

-- and of each place
pub all_at : {X : Type 0} (p : X → Bool) (xs : List X) (i : ℕ) (d : X) → i < length xs → list_all p xs ≡ true → p (get_or xs i d) ≡ true
all_at p xs i d low all = elim (cases_Bool (p (get_or xs i d))) [ inl is ↦ is | inr other ↦ absurd (true≢false (sym all ∙ list_all_at p xs i d low other)) ]

-- a list is what stands at each of its places
pub each_place : {X Y : Type 0} (g : X → Y) (xs : List X) (d : X) → map (λ i. g (get_or xs i d)) (row_numbers (length xs)) ≡ map g xs
each_place g xs d = sym (fill_by_all (λ i. g (get_or xs i d)) (map g xs) (length xs) (g d) (length-map xs g) (λ k low. get_or-map g xs k d (g d) low))

-- a number that is lent
pub lent_or_null : (o : Option (Bor ℤ)) → or_null (λ (n : Bor ℤ). int n.now) o ≡ or_null int (option_map (λ (n : Bor ℤ). n.now) o)
lent_or_null None = refl
lent_or_null (Some n) = refl
