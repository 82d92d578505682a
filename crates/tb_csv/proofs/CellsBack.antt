-- A value, from its field.
use Rattle.std.proofs.Common.{◌≡◌, ◌≢◌, ◌==◌, subst, ◌≤◌, ◌<◌, ◌^◌, ◌+◌, ◌∷◌, ◌∙◌, ◌≤ℤ◌, [], ℕ, ℤ, pos, negsuc, zero, suc, List, Bool, true, false, Option, Some, None, length, get_or, refl, sym, ap, arith, ◌&&◌, nat_le, neg_ℤ, ne_eqb, codes, true≢false, ◌%◌, ◌||◌}
use Rattle.std.specs.Prelude.{is_none, option_and_then, option_map, IsSomeAnd, int_le, nat_lt, if◌then◌else◌}
use Rattle.std.specs.Fmt.{decimal, signed_decimal}
use Rattle.std.specs.Str.{bytes_eq, is_utf8}
use Rattle.std.proofs.lemmas.Str.{IsUtf8-from_ascii, IsUtf8-nil, is_utf8-from_IsUtf8}
use Rattle.std.proofs.lemmas.Str.Ascii.{IsAscii-cons}
use Rattle.std.specs.Str.Parse.{AllDigits, digits_value, signed_digits_value}
use Rattle.std.proofs.lemmas.Bool.{eqb-true}
use Rattle.std.proofs.lemmas.Bool.Decides.{nat_tests}
use Rattle.std.proofs.lemmas.Fmt.{IsAscii-decimal_wide, decimal_by_steps_wide, decimal_digit, decimal_is_IsNumeral_wide}
use Rattle.std.proofs.lemmas.Int.{ints}
use Rattle.std.proofs.Math.ListN.{get_or-append}
use Rattle.std.proofs.lemmas.List.{length-append}
use Rattle.std.proofs.lemmas.Str.Parse.{digit_from_value}
use Rattle.tb_value.specs.Promise.Datum.{Datum}
use Rattle.tb_value.specs.Promise.Datum as value
use Rattle.tb_value.specs.Promise.Kind.{Kind, Parts}
use Rattle.tb_value.specs.Promise.Kind as kind
use Rattle.tb_value.specs.Promise.Typed.{HasType, IsListOf, IsStructOf, ends}
use Rattle.tb_label.specs.Promise.Numerals.{are_digits, fits, is_digit, is_counting, is_whole, whole_in}
use Rattle.tb_date.specs.Promise.Dates.{date_text, has_text, is_date, number_text}
use Rattle.tb_csv.specs.Laws.{IsPlain}
use Rattle.tb_csv.specs.Promise.Records.{bytes_of}
use Rattle.tb_csv.specs.Promise.Texts.{field_among, field_of, field_type}
use Rattle.tb_date.proofs.DateTexts.{date_is_text}
use Rattle.tb_date.proofs.DatesBack.{date_back}
use Rattle.tb_csv.specs.Promise.Types.{cell_value, empty_value, field_value, is_within, kind_at, or_string, ranged_number}
use Rattle.tb_csv.specs.declared.field_type.FieldType.{FieldType}
use Rattle.tb_csv.specs.declared.field_type.FieldType.TheVariants as field

-- DIGITS

first_digit : (n : ℕ) → 0 < n → n < 10 ^ 64 → 48 < get_or (decimal n) 0 0
first_digit n some small = (decimal_by_steps_wide (λ m ds. (0 < length ds) × (0 < m → 48 < get_or ds 0 0)) (λ m l. (omega arith, λ a. omega arith))
    (λ m ds l h. (omega (arith, length-append ds ((48 + m % 10) ∷ [])), λ a. omega (arith, get_or-append ds ((48 + m % 10) ∷ []) 0 0 h.0, h.1 (omega arith)))) n small).1 some

digit_true : (c : ℕ) → 48 ≤ c → c ≤ 57 → is_digit c ≡ true
digit_true c low high = grind (arith, nat_tests)

lead_true : (c : ℕ) → 48 < c → c ≤ 57 → (nat_le 49 c && nat_le c 57) ≡ true
lead_true c low high = grind (arith, nat_tests)

digits : (ds : List ℕ) → AllDigits 10 ds → are_digits ds ≡ true
digits [] d = refl
digits (c ∷ cs) d = let r = digit_from_value c d.0 in rw (digit_true c (omega (arith, r)) (omega (arith, r)), digits cs d.1) refl

counting : (ds : List ℕ) → 48 < get_or ds 0 0 → AllDigits 10 ds → is_counting ds ≡ true
counting [] first d = absurd (omega (arith, first))
counting (c ∷ cs) first d = let r = digit_from_value c d.0 in rw (lead_true c (omega (arith, first)) (omega (arith, r)), digits cs d.1) refl

or_true : (b : Bool) → (b || true) ≡ true
or_true true = refl
or_true false = refl

is_whole_of : (ds : List ℕ) → 48 < get_or ds 0 0 → AllDigits 10 ds → is_whole ds ≡ true
is_whole_of [] first d = absurd (omega (arith, first))
is_whole_of (c ∷ cs) first d =
    let r = digit_from_value c d.0 in
    rw (ne_eqb c 45 (λ e. omega (arith, r, e)), counting (c ∷ cs) first d) (or_true (bytes_eq (c ∷ cs) (codes "0")))

value_of : (ds : List ℕ) → AllDigits 10 ds → 0 < length ds → signed_digits_value 10 ds ≡ pos (digits_value 10 ds)
value_of [] d h = absurd (omega (arith, h))
value_of (c ∷ cs) d h =
    let r = digit_from_value c d.0 in
    rw (ne_eqb c 45 (λ e. omega (arith, r, e)), ne_eqb c 43 (λ e. omega (arith, r, e))) refl

abbrev pub IsBelow : ℤ → Type 0
IsBelow z = (negsuc 170141183460469231731687303715884105727 ≤ℤ z) × (z ≤ℤ pos 170141183460469231731687303715884105727)

fits_of : (z : ℤ) → IsBelow z → fits z ≡ true
fits_of (pos n) h = grind (arith, nat_tests, ints)
fits_of (negsuc n) h = grind (arith, nat_tests, ints)

pub whole_back : (z : ℤ) → IsBelow z → whole_in (signed_decimal z) ≡ Some z
unfolding whole_in
whole_back (pos zero) h = rw (decimal_digit 0 (omega arith)) refl
whole_back (pos (suc n)) h =
    let small : suc n < 10 ^ 64 = omega (arith, ints) in
    let k = decimal_is_IsNumeral_wide (suc n) small in
    let is : signed_digits_value 10 (decimal (suc n)) ≡ pos (suc n) = value_of (decimal (suc n)) k.0.1 k.0.0 ∙ ap pos k.1 in
    rw (is_whole_of (decimal (suc n)) (first_digit (suc n) (omega arith) small) k.0.1, is, fits_of (pos (suc n)) h) refl
whole_back (negsuc n) h =
    let small : suc n < 10 ^ 64 = omega (arith, ints) in
    let k = decimal_is_IsNumeral_wide (suc n) small in
    let is : signed_digits_value 10 (45 ∷ decimal (suc n)) ≡ negsuc n = ap (λ m. neg_ℤ (pos m)) k.1 in
    rw (counting (decimal (suc n)) (first_digit (suc n) (omega arith) small) k.0.1, is, fits_of (negsuc n) h) refl

pub number_long : (z : ℤ) → IsBelow z → 0 < length (signed_decimal z)
number_long (pos n) h = (decimal_is_IsNumeral_wide n (omega (arith, ints))).0.0
number_long (negsuc n) h = omega arith

-- CELLS

pub present : (t : FieldType) (s : List ℕ) → 0 < length s → cell_value t (Some s) ≡ field_value t s
present t [] h = absurd (omega (arith, h))
present t (c ∷ cs) h = refl

le_true : (a b : ℤ) → a ≤ℤ b → int_le a b ≡ true
le_true (pos a) (pos b) h = grind (arith, nat_tests, ints)
le_true (pos a) (negsuc b) h = grind (arith, nat_tests, ints)
le_true (negsuc a) (pos b) h = grind (arith, nat_tests, ints)
le_true (negsuc a) (negsuc b) h = grind (arith, nat_tests, ints)

within : (o : Option (ℤ × ℤ)) (z : ℤ) → IsSomeAnd o (λ e. (e.0 ≤ℤ z) × (z ≤ℤ e.1)) → is_within o z ≡ true
within None z h = absurd h
within (Some e) z h = rw (le_true e.0 z h.0, le_true z e.1 h.1) refl

ranged_back : (k : Kind) (z : ℤ) → HasType k (value.int z) → ranged_number k z ≡ Some (value.int z)
ranged_back k z h = rw (within (ends k) z h) refl

number_back : (t : FieldType) (k : Kind) (z : ℤ) → field_value t (signed_decimal z) ≡ option_and_then (ranged_number k) (whole_in (signed_decimal z)) → HasType k (value.int z) → IsBelow z
    → cell_value t (Some (signed_decimal z)) ≡ Some (value.int z)
number_back t k z e h below =
    present t (signed_decimal z) (number_long z below) ∙ e ∙ ap (λ (o : Option ℤ). option_and_then (ranged_number k) o) (whole_back z below) ∙ ranged_back k z h

no_list : (k : Kind) (P : Kind → Type 0) → IsListOf k P → is_none (ends k) ≡ true
no_list (kind.list t) P h = refl
no_list _ P h = absurd h

no_struct : (k : Kind) (P : Parts → Type 0) → IsStructOf k P → is_none (ends k) ≡ true
no_struct (kind.struct t) P h = refl
no_struct _ P h = absurd h

-- of a type of whole numbers
whole_cells : (t : FieldType) (k : Kind) (v : Datum) → is_none (ends k) ≡ false → is_date k ≡ false → ((s : List ℕ) → field_value t s ≡ option_and_then (ranged_number k) (whole_in s)) → ((z : ℤ) → HasType k (value.int z) → IsBelow z)
    → HasType k v → cell_value t (field_of k v) ≡ Some v
whole_cells t k value.null some none e below h = refl
whole_cells t k (value.boolean b) some none e below h = absurd (true≢false (rw h at some))
whole_cells t k (value.int z) some none e below h = rw none (number_back t k z (e (signed_decimal z)) h (below z h))
whole_cells t k (value.string s) some none e below h = absurd (true≢false (rw h.0 at some))
whole_cells t k (value.binary s) some none e below h = absurd (true≢false (rw h.0 at some))
whole_cells t k (value.list vs) some none e below h = absurd (true≢false (sym (no_list k _ h) ∙ some))
whole_cells t k (value.struct vs) some none e below h = absurd (true≢false (sym (no_struct k _ h) ∙ some))

truth_cells : (v : Datum) → HasType kind.boolean v → cell_value field.Boolean (field_of kind.boolean v) ≡ Some v
truth_cells value.null h = refl
truth_cells (value.boolean true) h = refl
truth_cells (value.boolean false) h = refl
truth_cells (value.int z) h = absurd h
truth_cells (value.string s) h = cc h.0
truth_cells (value.binary s) h = cc h.0
truth_cells (value.list vs) h = absurd h
truth_cells (value.struct vs) h = absurd h

text_cells : (v : Datum) → HasType kind.string v → cell_value field.String (field_of kind.string v) ≡ Some v
text_cells value.null h = refl
text_cells (value.boolean b) h = cc h
text_cells (value.int z) h = absurd h
text_cells (value.string []) h = refl
text_cells (value.string (c ∷ cs)) h =
    let short : length (c ∷ cs) < 4294967296 = omega (arith, h.1) in
    let e : nat_lt (length (c ∷ cs)) 4294967296 ≡ true = grind (arith, nat_tests) in rw e refl
text_cells (value.binary s) h = cc h.0
text_cells (value.list vs) h = absurd h
text_cells (value.struct vs) h = absurd h

chosen : (b : Bool) (x y : List ℕ) → b ≡ true → (if b then x else y) ≡ x
chosen true x y e = refl
chosen false x y e = absurd (true≢false (sym e))

date_cells : (n : ℕ) (v : Datum) → HasType kind.date v → IsPlain n kind.date v → cell_value field.Date (field_of kind.date v) ≡ Some v
date_cells n value.null h plain = refl
date_cells n (value.boolean b) h plain = cc h
date_cells n (value.int z) h plain =
    let written : number_text true z ≡ date_text z = chosen (has_text z) (date_text z) (signed_decimal z) (plain refl) in
    ap (λ (s : List ℕ). cell_value field.Date (Some s)) written ∙ ap (option_map value.int) (date_back z (plain refl))
date_cells n (value.string s) h plain = cc h.0
date_cells n (value.binary s) h plain = cc h.0
date_cells n (value.list vs) h plain = absurd h
date_cells n (value.struct vs) h plain = absurd h

cells_back : (n : ℕ) (k : Kind) → is_none (field_type k) ≡ false → (v : Datum) → HasType k v → IsPlain n k v → cell_value (or_string (field_type k)) (field_of k v) ≡ Some v
cells_back n kind.boolean some v h full = truth_cells v h
cells_back n kind.int8 some v h full = whole_cells field.Int8 kind.int8 v refl refl (λ s. refl) (λ z k. (omega (arith, ints, k.0), omega (arith, ints, k.1))) h
cells_back n kind.int16 some v h full = whole_cells field.Int16 kind.int16 v refl refl (λ s. refl) (λ z k. (omega (arith, ints, k.0), omega (arith, ints, k.1))) h
cells_back n kind.int32 some v h full = whole_cells field.Int32 kind.int32 v refl refl (λ s. refl) (λ z k. (omega (arith, ints, k.0), omega (arith, ints, k.1))) h
cells_back n kind.int64 some v h full = whole_cells field.Int64 kind.int64 v refl refl (λ s. refl) (λ z k. (omega (arith, ints, k.0), omega (arith, ints, k.1))) h
cells_back n kind.int128 some v h full = whole_cells field.Int128 kind.int128 v refl refl (λ s. refl) (λ z k. (omega (arith, ints, k.0), omega (arith, ints, k.1))) h
cells_back n kind.uint8 some v h full = whole_cells field.UInt8 kind.uint8 v refl refl (λ s. refl) (λ z k. (omega (arith, ints, k.0), omega (arith, ints, k.1))) h
cells_back n kind.uint16 some v h full = whole_cells field.UInt16 kind.uint16 v refl refl (λ s. refl) (λ z k. (omega (arith, ints, k.0), omega (arith, ints, k.1))) h
cells_back n kind.uint32 some v h full = whole_cells field.UInt32 kind.uint32 v refl refl (λ s. refl) (λ z k. (omega (arith, ints, k.0), omega (arith, ints, k.1))) h
cells_back n kind.uint64 some v h full = whole_cells field.UInt64 kind.uint64 v refl refl (λ s. refl) (λ z k. (omega (arith, ints, k.0), omega (arith, ints, k.1))) h
cells_back n kind.string some v h full = text_cells v h
cells_back n kind.date some v h full = date_cells n v h full
cells_back n _ some v h full = absurd (true≢false some)

-- ONE FIELD ALONE

not_text : (k : Kind) → is_none (field_type k) ≡ false → k ≢ kind.string → empty_value (or_string (field_type k)) ≡ value.null
not_text kind.boolean some other = refl
not_text kind.int8 some other = refl
not_text kind.int16 some other = refl
not_text kind.int32 some other = refl
not_text kind.int64 some other = refl
not_text kind.int128 some other = refl
not_text kind.uint8 some other = refl
not_text kind.uint16 some other = refl
not_text kind.uint32 some other = refl
not_text kind.uint64 some other = refl
not_text kind.string some other = absurd (other refl)
not_text kind.date some other = refl
not_text _ some other = absurd (true≢false some)

alone_back : (k : Kind) → is_none (field_type k) ≡ false → (v : Datum) → HasType k v → IsPlain 1 k v → cell_value (or_string (field_type k)) (Some (bytes_of (field_of k v))) ≡ Some v
alone_back k some value.null h plain = ap Some (not_text k some (plain refl))
alone_back k some (value.boolean b) h plain = cells_back 1 k some (value.boolean b) h plain
alone_back k some (value.int z) h plain = cells_back 1 k some (value.int z) h plain
alone_back k some (value.string s) h plain = cells_back 1 k some (value.string s) h plain
alone_back k some (value.binary s) h plain = cc (cells_back 1 k some (value.binary s) h plain)
alone_back k some (value.list vs) h plain = cc (cells_back 1 k some (value.list vs) h plain)
alone_back k some (value.struct vs) h plain = cc (cells_back 1 k some (value.struct vs) h plain)

among_back : (b : Bool) (n : ℕ) (k : Kind) → is_none (field_type k) ≡ false → (v : Datum) → HasType k v → (n == 1) ≡ b → IsPlain n k v
    → cell_value (or_string (field_type k)) (if b then Some (bytes_of (field_of k v)) else field_of k v) ≡ Some v
among_back true n k some v h is plain = alone_back k some v h (subst (λ (m : ℕ). IsPlain m k v) (eqb-true n 1 is) plain)
among_back false n k some v h is plain = cells_back n k some v h plain

pub value_back : (n : ℕ) (k : Kind) → is_none (field_type k) ≡ false → (v : Datum) → HasType k v → IsPlain n k v → cell_value (or_string (field_type k)) (field_among n k v) ≡ Some v
value_back n k some v h plain = among_back (n == 1) n k some v h refl plain

-- FIELDS ARE TEXTS

any_below : (k : Kind) (z : ℤ) → HasType k (value.int z) → IsBelow z
any_below kind.int8 z k = (omega (arith, ints, k.0), omega (arith, ints, k.1))
any_below kind.int16 z k = (omega (arith, ints, k.0), omega (arith, ints, k.1))
any_below kind.int32 z k = (omega (arith, ints, k.0), omega (arith, ints, k.1))
any_below kind.int64 z k = (omega (arith, ints, k.0), omega (arith, ints, k.1))
any_below kind.int128 z k = (omega (arith, ints, k.0), omega (arith, ints, k.1))
any_below kind.uint8 z k = (omega (arith, ints, k.0), omega (arith, ints, k.1))
any_below kind.uint16 z k = (omega (arith, ints, k.0), omega (arith, ints, k.1))
any_below kind.uint32 z k = (omega (arith, ints, k.0), omega (arith, ints, k.1))
any_below kind.uint64 z k = (omega (arith, ints, k.0), omega (arith, ints, k.1))
any_below kind.date z k = (omega (arith, ints, k.0), omega (arith, ints, k.1))
any_below kind.time z k = (omega (arith, ints, k.0), omega (arith, ints, k.1))
any_below (kind.datetime u n) z k = (omega (arith, ints, k.0), omega (arith, ints, k.1))
any_below (kind.duration u) z k = (omega (arith, ints, k.0), omega (arith, ints, k.1))
any_below _ z k = absurd k

digits_text : (z : ℤ) → IsBelow z → is_utf8 (signed_decimal z) ≡ true
digits_text (pos n) h = is_utf8-from_IsUtf8 (decimal n) (IsUtf8-from_ascii (decimal n) (IsAscii-decimal_wide n (omega (arith, ints))))
digits_text (negsuc n) h =
    is_utf8-from_IsUtf8 (45 ∷ decimal (suc n)) (IsUtf8-from_ascii (45 ∷ decimal (suc n)) (IsAscii-cons 45 (decimal (suc n)) (omega arith) (IsAscii-decimal_wide (suc n) (omega (arith, ints)))))

day_is_text : (z : ℤ) (b : Bool) → has_text z ≡ b → IsBelow z → is_utf8 (if b then date_text z else signed_decimal z) ≡ true
day_is_text z true e below = is_utf8-from_IsUtf8 (date_text z) (date_is_text z e)
day_is_text z false e below = digits_text z below

number_is_text : (is_day : Bool) (z : ℤ) → IsBelow z → is_utf8 (number_text is_day z) ≡ true
number_is_text true z below = day_is_text z (has_text z) refl below
number_is_text false z below = digits_text z below

none_text : is_utf8 [] ≡ true
none_text = is_utf8-from_IsUtf8 [] IsUtf8-nil

-- the field of each value of a type is UTF-8
field_text : (k : Kind) (v : Datum) → HasType k v → is_utf8 (bytes_of (field_of k v)) ≡ true
field_text k value.null h = none_text
field_text k (value.boolean true) h = is_utf8-from_IsUtf8 (codes "true") (IsUtf8-from_ascii (codes "true") (IsAscii-cons 116 (114 ∷ 117 ∷ 101 ∷ []) (omega arith) (IsAscii-cons 114 (117 ∷ 101 ∷ []) (omega arith) (IsAscii-cons 117 (101 ∷ []) (omega arith) (IsAscii-cons 101 ([]) (omega arith) (λ i. omega arith))))))
field_text k (value.boolean false) h = is_utf8-from_IsUtf8 (codes "false") (IsUtf8-from_ascii (codes "false") (IsAscii-cons 102 (97 ∷ 108 ∷ 115 ∷ 101 ∷ []) (omega arith) (IsAscii-cons 97 (108 ∷ 115 ∷ 101 ∷ []) (omega arith) (IsAscii-cons 108 (115 ∷ 101 ∷ []) (omega arith) (IsAscii-cons 115 (101 ∷ []) (omega arith) (IsAscii-cons 101 ([]) (omega arith) (λ i. omega arith)))))))
field_text k (value.int z) h = number_is_text (is_date k) z (any_below k z h)
field_text k (value.string s) h = is_utf8-from_IsUtf8 s h.2
field_text k (value.binary s) h = none_text
field_text k (value.list vs) h = none_text
field_text k (value.struct vs) h = none_text

same_bytes : (b : Bool) (k : Kind) (v : Datum) → bytes_of (if b then Some (bytes_of (field_of k v)) else field_of k v) ≡ bytes_of (field_of k v)
same_bytes true k v = refl
same_bytes false k v = refl

pub field_is_text : (n : ℕ) (k : Kind) (v : Datum) → HasType k v → is_utf8 (bytes_of (field_among n k v)) ≡ true
field_is_text n k v h = ap is_utf8 (same_bytes (n == 1) k v) ∙ field_text k v h

-- the type that a field is read as is the type of its value
pub kind_back : (k : Kind) → is_none (field_type k) ≡ false → kind_at (or_string (field_type k)) ≡ k
kind_back kind.boolean h = refl
kind_back kind.int8 h = refl
kind_back kind.int16 h = refl
kind_back kind.int32 h = refl
kind_back kind.int64 h = refl
kind_back kind.int128 h = refl
kind_back kind.uint8 h = refl
kind_back kind.uint16 h = refl
kind_back kind.uint32 h = refl
kind_back kind.uint64 h = refl
kind_back kind.string h = refl
kind_back kind.date h = refl
kind_back _ h = absurd (true≢false h)
