-- A field's bytes tell it from other values of its type, whatever follows them.
use Rattle.std.proofs.Common.{◌≡◌, ◌⊎◌, ℕ, ◌^◌, ◌<◌, ◌%◌, Bool, true, false, List, ◌++◌, length, refl, ap, sym, ◌∙◌, inl, inr, arith}
use Rattle.std.specs.Prelude.{IsTrue, ℤ, ◌≤ℤ◌, IsSomeAnd}
use Rattle.std.specs.Int.{bytes_high_first}
use Rattle.std.proofs.lemmas.List.{append_assoc}
use Rattle.std.proofs.lemmas.Bool.{false≢true}
use Rattle.tb_value.specs.Promise.Datum.{Datum, null, boolean, int, string, binary, list, struct}
use Rattle.tb_value.specs.Promise.Kind.{Kind, Parts}
use Rattle.tb_value.specs.Promise.Kind as kind
use Rattle.tb_value.specs.Promise.SameKind.{is_key}
use Rattle.tb_value.specs.Promise.Typed.{HasType, AreOf, AreEachOf, IsListOf, IsStructOf, ends}
use Rattle.tb_rowkey.specs.Promise.Bytes.{width, twos_complement}
use Rattle.tb_rowkey.specs.Promise.RowKey.{bit, text_code, field_code}
use Rattle.tb_rowkey.specs.Rows.{IsKeyOf}
use Rattle.tb_rowkey.proofs.Numbers.{first, rest, bytes_apart, front_apart}
use Rattle.tb_rowkey.proofs.Widths.{wholes_apart}

-- which sort of value a value is, and which sort a type has
abbrev sort : Datum → ℕ
sort null = 0
sort (boolean b) = 1
sort (int z) = 2
sort (string s) = 3
sort (binary s) = 4
sort (list vs) = 5
sort (struct vs) = 6

abbrev sort_of : Kind → ℕ
sort_of kind.null = 0
sort_of kind.boolean = 1
sort_of kind.string = 3
sort_of kind.binary = 4
sort_of (kind.list t) = 5
sort_of (kind.struct ps) = 6
sort_of _ = 2

whole_sort : (t : Kind) (P : ℤ × ℤ → Type 0) → IsSomeAnd (ends t) P → 2 ≡ sort_of t
whole_sort kind.null P h = absurd h
whole_sort kind.boolean P h = absurd h
whole_sort kind.string P h = absurd h
whole_sort kind.binary P h = absurd h
whole_sort (kind.list t) P h = absurd h
whole_sort (kind.struct ps) P h = absurd h
whole_sort _ P h = refl

list_sort : (t : Kind) (P : Kind → Type 0) → IsListOf t P → 5 ≡ sort_of t
list_sort (kind.list t) P h = refl
list_sort _ P h = absurd h

struct_sort : (t : Kind) (P : Parts → Type 0) → IsStructOf t P → 6 ≡ sort_of t
struct_sort (kind.struct ps) P h = refl
struct_sort _ P h = absurd h

-- a value is Null or of its type's sort
sort_is : (t : Kind) (a : Datum) → HasType t a → (sort a ≡ 0) ⊎ (sort a ≡ sort_of t)
sort_is t null h = inl refl
sort_is t (boolean b) h = inr (sym (ap sort_of h))
sort_is t (int z) h = inr (whole_sort t (λ e. (e.0 ≤ℤ z) × (z ≤ℤ e.1)) h)
sort_is t (string s) h = inr (sym (ap sort_of h.0))
sort_is t (binary s) h = inr (sym (ap sort_of h.0))
sort_is t (list vs) h = inr (list_sort t (λ u. AreOf u vs) h)
sort_is t (struct vs) h = inr (struct_sort t (λ ps. AreEachOf ps vs) h)

bit_apart : (a b : Bool) → bit a ≡ bit b → a ≡ b
bit_apart true true e = refl
bit_apart false false e = refl
bit_apart true false e = absurd (omega arith)
bit_apart false true e = absurd (omega arith)

no_list : (t : Kind) (P : Kind → Type 0) → IsTrue (is_key t) → IsListOf t P → ⊥
no_list (kind.list t) P k h = false≢true k
no_list _ P k h = h

no_struct : (t : Kind) (P : Parts → Type 0) → IsTrue (is_key t) → IsStructOf t P → ⊥
no_struct (kind.struct ps) P k h = false≢true k
no_struct _ P k h = h

text_apart : (s t xs ys : List ℕ) → length s < 2 ^ 32 → length t < 2 ^ 32 → text_code s ++ xs ≡ text_code t ++ ys → (s ≡ t) × (xs ≡ ys)
text_apart s t xs ys l r e =
    let h = bytes_apart 4 (length s) (length t) (s ++ xs) (t ++ ys)
    (sym (append_assoc (bytes_high_first 4 (length s)) s xs) ∙ e ∙ append_assoc (bytes_high_first 4 (length t)) t ys) in
    let g : length s % 4294967296 ≡ length t % 4294967296 = h.0 in
    front_apart s t xs ys (omega (arith, g, l, r)) h.1

-- the main lemma
pub field_apart : (t : Kind) (a b : Datum) (xs ys : List ℕ) → IsKeyOf t a → IsKeyOf t b → field_code t a ++ xs ≡ field_code t b ++ ys → (a ≡ b) × (xs ≡ ys)
field_apart t null null xs ys l r e = (refl, ap rest e)
field_apart t null b xs ys l r e = absurd (omega (arith, ap first e))
field_apart t a null xs ys l r e = absurd (omega (arith, ap first e))
field_apart t (boolean a) (boolean b) xs ys l r e = (ap boolean (bit_apart a b (ap (λ m. first (rest m)) e)), ap (λ m. rest (rest m)) e)
field_apart t (int a) (int b) xs ys l r e =
    let h = bytes_apart (width t) (twos_complement a) (twos_complement b) xs ys (ap rest e) in
    (ap int (wholes_apart t a b l.1 r.1 h.0), h.1)
field_apart t (string a) (string b) xs ys l r e = let h = text_apart a b xs ys l.1.1 r.1.1 (ap rest e) in (ap string h.0, h.1)
field_apart t (binary a) (binary b) xs ys l r e = let h = text_apart a b xs ys l.1.1 r.1.1 (ap rest e) in (ap binary h.0, h.1)
field_apart t (list a) b xs ys l r e = absurd (no_list t (λ u. AreOf u a) l.0 l.1)
field_apart t (struct a) b xs ys l r e = absurd (no_struct t (λ ps. AreEachOf ps a) l.0 l.1)
field_apart t a b xs ys l r e = absurd (omega (arith, sort_is t a l.1, sort_is t b r.1))
