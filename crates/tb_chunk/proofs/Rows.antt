-- Facts on the texts of rows.
use Rattle.std.proofs.Common.{arith, suc, ◌≡◌, ◌<◌, ◌∷◌, [], ℕ, false, List, Option, Some, None, length, map, get_or, refl, sym, ◌∙◌, ap, subst}
use Rattle.std.specs.Prelude.{filter, is_none}
use Rattle.std.specs.List.{All, count_by}
use Rattle.std.specs.Str.{IsUtf8}
use Rattle.std.proofs.lemmas.Str.{IsUtf8-from_is_utf8, is_utf8-from_IsUtf8}
use Rattle.std.proofs.lemmas.List.Sums.{length-filter}
use Rattle.std.proofs.lemmas.List.Elements.{All-cons, All-nil, All-head, All-tail, All-get_or}
use Rattle.tb_value.specs.Promise.Datum.{Datum, is_null, string, binary}
use Rattle.tb_value.specs.Promise.Datum as value
use Rattle.tb_value.specs.Promise.Kind as kind
use Rattle.tb_value.specs.See.{datum, data_of}
use Rattle.tb_value.specs.declared.any_value.AnyValue.{AnyValue}
use Rattle.tb_cell.specs.Shown.{or_null}
use Rattle.tb_cell.specs.Fits.{Fits}
use Rattle.tb_cell.specs.Promise.Flag.{nulls}
use Rattle.tb_value.specs.Promise.Texts.{text_of}
use Rattle.tb_value.specs.Texts.{IsUtf8Row}
use Rattle.tb_view.specs.View.{texts}
use Rattle.tb_view.specs.declared.view.View.{View}
use Rattle.tb_chunk.proofs.Fresh.{texts_among}
use Rattle.tb_cell.proofs.Nulls.{nulls_of_cells}

-- the texts are all of the values
string_again : (v : Datum) → Fits kind.string v → or_null string (text_of v) ≡ v
string_again value.null f = refl
string_again (value.string s) f = refl
string_again (value.boolean b) f = absurd (grind arith)
string_again (value.int i) f = absurd (grind arith)
string_again (value.binary s) f = absurd (grind arith)
string_again (value.list vs) f = absurd f
string_again (value.struct vs) f = absurd f

binary_again : (v : Datum) → Fits kind.binary v → or_null binary (text_of v) ≡ v
binary_again value.null f = refl
binary_again (value.binary s) f = refl
binary_again (value.boolean b) f = absurd (grind arith)
binary_again (value.int i) f = absurd (grind arith)
binary_again (value.string s) f = absurd (grind arith)
binary_again (value.list vs) f = absurd f
binary_again (value.struct vs) f = absurd f

pub strings_again : (vs : List Datum) → All (Fits kind.string) vs → map (or_null string) (map text_of vs) ≡ vs
strings_again [] a = refl
strings_again (v ∷ vs) a =
    let h = string_again v (All-head (Fits kind.string) v vs a) in
    let t = strings_again vs (All-tail (Fits kind.string) v vs a) in
    λ i. h i ∷ t i

pub binaries_again : (vs : List Datum) → All (Fits kind.binary) vs → map (or_null binary) (map text_of vs) ≡ vs
binaries_again [] a = refl
binaries_again (v ∷ vs) a =
    let h = binary_again v (All-head (Fits kind.binary) v vs a) in
    let t = binaries_again vs (All-tail (Fits kind.binary) v vs a) in
    λ i. h i ∷ t i

pub all_strings : (vs : List AnyValue) → All (Fits kind.string) (data_of vs) → map (or_null string) (map (λ v. text_of (datum v)) vs) ≡ data_of vs
all_strings vs a = ap (map (or_null string)) (texts_among vs) ∙ strings_again (data_of vs) a

pub all_binaries : (vs : List AnyValue) → All (Fits kind.binary) (data_of vs) → map (or_null binary) (map (λ v. text_of (datum v)) vs) ≡ data_of vs
all_binaries vs a = ap (map (or_null binary)) (texts_among vs) ∙ binaries_again (data_of vs) a

utf8_of : (v : Datum) → Fits kind.string v → IsUtf8Row (text_of v)
utf8_of value.null f = tt
utf8_of (value.string s) f = is_utf8-from_IsUtf8 s f.2
utf8_of (value.boolean b) f = tt
utf8_of (value.int i) f = tt
utf8_of (value.binary s) f = absurd (grind arith)
utf8_of (value.list vs) f = absurd f
utf8_of (value.struct vs) f = absurd f

pub utf8_all : (vs : List Datum) → All (Fits kind.string) vs → All IsUtf8Row (map text_of vs)
utf8_all [] a = All-nil IsUtf8Row
utf8_all (v ∷ vs) a = All-cons IsUtf8Row (text_of v) (map text_of vs) (utf8_of v (All-head (Fits kind.string) v vs a)) (utf8_all vs (All-tail (Fits kind.string) v vs a))

pub all_utf8 : (vs : List AnyValue) → All (Fits kind.string) (data_of vs) → All IsUtf8Row (map (λ v. text_of (datum v)) vs)
all_utf8 vs a = rw (texts_among vs) (utf8_all (data_of vs) a)

pub utf8-at : (ts : List (Option (List ℕ))) (row : ℕ) → row < length ts → All IsUtf8Row ts → IsUtf8Row (get_or ts row None)
utf8-at ts row low a = All-get_or IsUtf8Row ts row None low a

pub IsUtf8-at : (ts : List (Option (List ℕ))) (row : ℕ) (t : List ℕ) → row < length ts → All IsUtf8Row ts → Some t ≡ get_or ts row None → IsUtf8 t
IsUtf8-at ts row t low a e = IsUtf8-from_is_utf8 t (subst IsUtf8Row (sym e) (utf8-at ts row low a))

-- a row without a view is Null
absent : (bs : List (List ℕ)) (vs : List (Option View)) → length (filter is_none (texts bs vs)) ≡ length (filter is_none vs)
absent bs [] = refl
absent bs (None ∷ vs) = ap suc (absent bs vs)
absent bs (Some v ∷ vs) = absent bs vs

pub nulls_of_texts : (shows : List ℕ → Datum) (some : (t : List ℕ) → is_null (shows t) ≡ false) (bs : List (List ℕ)) (vs : List (Option View)) → length (nulls (map (or_null shows) (texts bs vs))) ≡ count_by is_none vs
nulls_of_texts shows some bs vs = nulls_of_cells shows some (texts bs vs) ∙ sym (length-filter is_none (texts bs vs)) ∙ absent bs vs ∙ length-filter is_none vs
