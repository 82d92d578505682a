-- A value is told by its type and its text.
use Rattle.std.proofs.Common.{◌≡◌, ℕ, ℤ, pos, negsuc, suc, neg_ℤ, List, [], ◌∷◌, Bool, true, false, cond, eqb, ne_eqb, unwrap_or, refl, sym, ap, subst, ◌∙◌, arith}
use Rattle.std.specs.Fmt.{decimal, signed_decimal}
use Rattle.std.specs.Prelude.{◌≤ℤ◌}
use Rattle.std.specs.Result.{result_ok}
use Rattle.std.specs.Str.Parse.{AllDigits, digits_value}
use Rattle.std.proofs.lemmas.Fmt.{decimal_is_IsNumeral_wide}
use Rattle.std.proofs.lemmas.Int.{ints}
use Rattle.std.proofs.lemmas.Str.Parse.{digit_from_value}
use Rattle.hex.specs.Hex.{decode_of, encode_lower}
use Rattle.hex.proofs.HexLemmas.{decode_of-encode_lower}
use Rattle.serde_json.specs.Data.{Num, unsigned, negative, float, Data, null, boolean, number, string, array, object, Items, no_items, item}
use Rattle.serde_json.specs.Find.{of_integer}
use Rattle.tb_value.specs.Promise.Datum as value
use Rattle.tb_value.specs.Promise.Datum.{Datum}
use Rattle.tb_value.specs.Promise.Kind as kind
use Rattle.tb_value.specs.Promise.Kind.{Kind, Parts}
use Rattle.tb_value.specs.Promise.Typed.{HasType, AreOf, AreEachOf, IsBytes, IsListOf, IsStructOf}
use Rattle.tb_json.specs.Promise.Text.{inner_kind, fields_in, number_data, value_data, items_data, fields_data}

-- ---- the value that a JSON value was written for

-- 45 is `-`
abbrev signed_back : List ℕ → ℤ
signed_back [] = pos 0
signed_back (c ∷ cs) = cond (eqb c 45) (neg_ℤ (pos (digits_value 10 cs))) (pos (digits_value 10 (c ∷ cs)))

abbrev whole_back : Num → ℤ
whole_back (unsigned n) = pos n
whole_back (negative z) = z
whole_back (float x) = pos 0

abbrev bytes_back : List ℕ → List ℕ
bytes_back s = unwrap_or (result_ok (decode_of s)) []

abbrev text_back : Kind → List ℕ → Datum
text_back kind.int128 s = value.int (signed_back s)
text_back kind.binary s = value.binary (bytes_back s)
text_back _ s = value.string s

abbrev is_list : Kind → Bool
is_list (kind.list t) = true
is_list _ = false

abbrev if_list : Bool → value.Items → value.Items → Datum
if_list true vs ws = value.list vs
if_list false vs ws = value.struct ws

abbrev mutual
  pub value_back : Kind → Data → Datum
  value_back t null = value.null
  value_back t (boolean b) = value.boolean b
  value_back t (number n) = value.int (whole_back n)
  value_back t (string s) = text_back t s
  value_back t (array ds) = if_list (is_list t) (items_back (inner_kind t) ds) (fields_back (fields_in t) ds)
  value_back t (object ms) = value.null

  items_back : Kind → Items → value.Items
  items_back t no_items = value.end
  items_back t (item d ds) = value.more (value_back t d) (items_back t ds)

  fields_back : Parts → Items → value.Items
  fields_back kind.end ds = value.end
  fields_back (kind.part n t ps) no_items = value.end
  fields_back (kind.part n t ps) (item d ds) = value.more (value_back t d) (fields_back ps ds)

-- ---- it is the value

signed_digits : (ds : List ℕ) → AllDigits 10 ds → signed_back ds ≡ pos (digits_value 10 ds)
signed_digits [] d = refl
signed_digits (c ∷ cs) d = ap (λ b. cond b (neg_ℤ (pos (digits_value 10 cs))) (pos (digits_value 10 (c ∷ cs)))) (ne_eqb c 45 (λ e. omega (arith, digit_from_value c d.0)))

signed_minus : (n : ℕ) (ds : List ℕ) → digits_value 10 ds ≡ suc n → neg_ℤ (pos (digits_value 10 ds)) ≡ negsuc n
signed_minus n ds e = ap (λ m. neg_ℤ (pos m)) e

abbrev IsBelow : ℤ → Type 0
IsBelow z = (negsuc 170141183460469231731687303715884105727 ≤ℤ z) × (z ≤ℤ pos 170141183460469231731687303715884105727)

signed_is : (z : ℤ) → IsBelow z → signed_back (signed_decimal z) ≡ z
signed_is (pos n) h =
    let k = decimal_is_IsNumeral_wide n (omega (arith, ints)) in
    signed_digits (decimal n) k.0.1 ∙ ap pos k.1
signed_is (negsuc n) h =
    let k = decimal_is_IsNumeral_wide (suc n) (omega (arith, ints)) in signed_minus n (decimal (suc n)) k.1

whole_is : (z : ℤ) → whole_back (of_integer z) ≡ z
whole_is (pos n) = refl
whole_is (negsuc n) = refl

number_is : (t : Kind) (z : ℤ) → HasType t (value.int z) → value_back t (number_data t z) ≡ value.int z
number_is kind.int128 z h = ap value.int (signed_is z h)
number_is _ z h = ap value.int (whole_is z)

string_is : (t : Kind) (s : List ℕ) → t ≡ kind.string → text_back t s ≡ value.string s
string_is t s e = let P : Kind → Type 0 = λ k. text_back k s ≡ value.string s in subst P (sym e) refl

binary_is : (t : Kind) (s : List ℕ) → t ≡ kind.binary → IsBytes s → text_back t (encode_lower s) ≡ value.binary s
binary_is t s e h =
    let P : Kind → Type 0 = λ k. text_back k (encode_lower s) ≡ value.binary s in
    subst P (sym e) (ap (λ r. value.binary (unwrap_or (result_ok r) [])) (decode_of-encode_lower s h))

pub list_of : (t : Kind) (P : Kind → Type 0) → IsListOf t P → (is_list t ≡ true) × P (inner_kind t)
list_of (kind.list t) P h = (refl, h)
list_of _ P h = absurd h

pub struct_of : (t : Kind) (P : Parts → Type 0) → IsStructOf t P → (is_list t ≡ false) × P (fields_in t)
struct_of (kind.struct ps) P h = (refl, h)
struct_of _ P h = absurd h

mutual
  pub value_back-value_data : (t : Kind) (v : Datum) → HasType t v → value_back t (value_data t v) ≡ v
  value_back-value_data t value.null h = refl
  value_back-value_data t (value.boolean b) h = refl
  value_back-value_data t (value.int z) h = number_is t z h
  value_back-value_data t (value.string s) h = string_is t s h.0
  value_back-value_data t (value.binary s) h = binary_is t s h.0 h.2
  value_back-value_data t (value.list vs) h =
      let p = list_of t (λ u. AreOf u vs) h in
      ap (λ b. if_list b (items_back (inner_kind t) (items_data (inner_kind t) vs)) (fields_back (fields_in t) (items_data (inner_kind t) vs))) p.0
      ∙ ap value.list (items_are (inner_kind t) vs p.1)
  value_back-value_data t (value.struct vs) h =
      let p = struct_of t (λ ps. AreEachOf ps vs) h in
      ap (λ b. if_list b (items_back (inner_kind t) (fields_data (fields_in t) vs)) (fields_back (fields_in t) (fields_data (fields_in t) vs))) p.0
      ∙ ap value.struct (fields_are (fields_in t) vs p.1)

  items_are : (t : Kind) (vs : value.Items) → AreOf t vs → items_back t (items_data t vs) ≡ vs
  items_are t value.end h = refl
  items_are t (value.more v vs) h =
      ap (λ w. value.more w (items_back t (items_data t vs))) (value_back-value_data t v h.0) ∙ ap (value.more v) (items_are t vs h.1)

  fields_are : (ps : Parts) (vs : value.Items) → AreEachOf ps vs → fields_back ps (fields_data ps vs) ≡ vs
  fields_are kind.end value.end h = refl
  fields_are kind.end (value.more v vs) h = absurd h
  fields_are (kind.part n t ps) value.end h = absurd h
  fields_are (kind.part n t ps) (value.more v vs) h =
      ap (λ w. value.more w (fields_back ps (fields_data ps vs))) (value_back-value_data t v h.0) ∙ ap (value.more v) (fields_are ps vs h.1)
