-- The keys of rows tell the rows apart, and match where the rows agree.
use Rattle.std.proofs.Common.{◌≡◌, ℕ, zero, suc, ◌+◌, Bool, true, false, ◌&&◌, ◌||◌, List, [], ◌∷◌, ◌++◌, length, get_or, map, refl, ap, sym, ◌∙◌, arith}
use Rattle.std.specs.Prelude.{if◌then◌else◌}
use Rattle.std.specs.List.{list_all, range_with_len}
use Rattle.std.proofs.lemmas.Bool.{false≢true, or_left, and_parts, and_from}
use Rattle.std.proofs.lemmas.List.{append_assoc, append-nil}
use Rattle.std.proofs.lemmas.List.Folds.{list_all-map}
use Rattle.tb_value.specs.Promise.Datum.{Datum, null, binary, is_present}
use Rattle.tb_value.specs.Promise.Kind.{Kind}
use Rattle.tb_value.specs.Promise.Pairs.{row_numbers}
use Rattle.tb_value.specs.Promise.Same.{same, agrees}
use Rattle.tb_value.specs.Proved.ValueTests.{same-Decides}
use Rattle.tb_rowkey.specs.Promise.RowKey.{field_code, rowkey, has_key, key_row}
use Rattle.tb_rowkey.specs.Rows.{IsKeyRow, rows_meet}
use Rattle.tb_rowkey.proofs.Apart.{field_apart}

pub row_apart : (ts : List Kind) (fs gs : List Datum) (xs ys : List ℕ) → IsKeyRow ts fs → IsKeyRow ts gs → rowkey ts fs ++ xs ≡ rowkey ts gs ++ ys → (fs ≡ gs) × (xs ≡ ys)
row_apart [] [] [] xs ys l r e = (refl, e)
row_apart (t ∷ ts) (f ∷ fs) (g ∷ gs) xs ys l r e =
    let h = field_apart t f g (rowkey ts fs ++ xs) (rowkey ts gs ++ ys) l.0 r.0
    (sym (append_assoc (field_code t f) (rowkey ts fs) xs) ∙ e ∙ append_assoc (field_code t g) (rowkey ts gs) ys) in
    let k = row_apart ts fs gs xs ys l.1 r.1 h.1 in
    (λ i. h.0 i ∷ k.0 i, k.1)
row_apart [] (f ∷ fs) gs xs ys l r e = absurd l
row_apart [] [] (g ∷ gs) xs ys l r e = absurd r
row_apart (t ∷ ts) [] gs xs ys l r e = absurd l
row_apart (t ∷ ts) (f ∷ fs) [] xs ys l r e = absurd r

pub same_key : (ts : List Kind) (fs gs : List Datum) → IsKeyRow ts fs → IsKeyRow ts gs → rowkey ts fs ≡ rowkey ts gs → fs ≡ gs
same_key ts fs gs l r e = (row_apart ts fs gs [] [] l r (append-nil (rowkey ts fs) ∙ e ∙ sym (append-nil (rowkey ts gs)))).0

pub no_prefix : (ts : List Kind) (fs gs : List Datum) (xs : List ℕ) → IsKeyRow ts fs → IsKeyRow ts gs → rowkey ts fs ++ xs ≡ rowkey ts gs → xs ≡ []
no_prefix ts fs gs xs l r e = (row_apart ts fs gs xs [] l r (e ∙ sym (append-nil (rowkey ts gs)))).1

-- FIELDS THAT AGREE

or_false : (x : Bool) → (x || false) ≡ true → x ≡ true
or_false true h = refl
or_false false h = h

meet_same : (n : Bool) (a b : Datum) → agrees n a b ≡ true → (a ≡ b) × ((is_present a || n) ≡ true)
meet_same n null null h = (refl, h)
meet_same n null b h = absurd (false≢true h)
meet_same n a null h = absurd (false≢true h)
meet_same n a b h = ((same-Decides a b).0 (or_false (same a b) h), refl)

meet_self : (n : Bool) (a : Datum) → (is_present a || n) ≡ true → agrees n a a ≡ true
meet_self n null h = h
meet_self n a h = or_left (same a a) false ((same-Decides a a).1 refl)

-- the fields of two rows agree at each place
abbrev all_meet : (ℕ → Bool) → List Datum → List Datum → Bool
all_meet nulls (f ∷ fs) (g ∷ gs) = agrees (nulls 0) f g && all_meet (λ p. nulls (suc p)) fs gs
all_meet nulls _ _ = true

all_same : (ts : List Kind) (nulls : ℕ → Bool) (fs gs : List Datum) → IsKeyRow ts fs → IsKeyRow ts gs → all_meet nulls fs gs ≡ true
    → (fs ≡ gs) × (has_key nulls fs ≡ true)
all_same [] nulls [] [] l r h = (refl, refl)
all_same (t ∷ ts) nulls (f ∷ fs) (g ∷ gs) l r h =
    let both = and_parts (agrees (nulls 0) f g) (all_meet (λ p. nulls (suc p)) fs gs) h in
    let a = meet_same (nulls 0) f g both.0 in
    let k = all_same ts (λ p. nulls (suc p)) fs gs l.1 r.1 both.1 in
    (λ i. a.0 i ∷ k.0 i, and_from (is_present f || nulls 0) (has_key (λ p. nulls (suc p)) fs) a.1 k.1)
all_same [] nulls (f ∷ fs) gs l r h = absurd l
all_same [] nulls [] (g ∷ gs) l r h = absurd r
all_same (t ∷ ts) nulls [] gs l r h = absurd l
all_same (t ∷ ts) nulls (f ∷ fs) [] l r h = absurd r

all_self : (nulls : ℕ → Bool) (fs : List Datum) → has_key nulls fs ≡ true → all_meet nulls fs fs ≡ true
all_self nulls [] h = refl
all_self nulls (f ∷ fs) h =
    let both = and_parts (is_present f || nulls 0) (has_key (λ p. nulls (suc p)) fs) h in
    and_from (agrees (nulls 0) f f) (all_meet (λ p. nulls (suc p)) fs fs) (meet_self (nulls 0) f both.0) (all_self (λ p. nulls (suc p)) fs both.1)

-- KEYS THAT AGREE

abbrev bytes_of : Datum → List ℕ
bytes_of (binary s) = s
bytes_of _ = []

abbrev key_if : Bool → List ℕ → Datum
key_if b s = if b then binary s else null

present_if : (b : Bool) (s : List ℕ) → b ≡ true → (is_present (key_if b s) || false) ≡ true
present_if true s h = refl
present_if false s h = h

same_if : (a b : Bool) (s t : List ℕ) → key_if a s ≡ key_if b t → (is_present (key_if a s) || false) ≡ true → (a ≡ true) × (s ≡ t)
same_if true true s t e h = (refl, ap bytes_of e)
same_if true false s t e h = absurd (cc)
same_if false b s t e h = absurd (false≢true h)

bool_ext : (a b : Bool) → (a ≡ true → b ≡ true) → (b ≡ true → a ≡ true) → a ≡ b
bool_ext true true f g = refl
bool_ext true false f g = sym (f refl)
bool_ext false true f g = g refl
bool_ext false false f g = refl

module _ (ts : List Kind) (nulls : ℕ → Bool) (fs gs : List Datum) (l : IsKeyRow ts fs) (r : IsKeyRow ts gs) where
  to_rows : agrees false (key_row ts nulls fs) (key_row ts nulls gs) ≡ true → all_meet nulls fs gs ≡ true
  to_rows h =
      let a = meet_same false (key_row ts nulls fs) (key_row ts nulls gs) h in
      let k = same_if (has_key nulls fs) (has_key nulls gs) (rowkey ts fs) (rowkey ts gs) a.0 a.1 in
      ap (all_meet nulls fs) (sym (same_key ts fs gs l r k.1)) ∙ all_self nulls fs k.0

  to_keys : all_meet nulls fs gs ≡ true → agrees false (key_row ts nulls fs) (key_row ts nulls gs) ≡ true
  to_keys h =
      let k = all_same ts nulls fs gs l r h in
      ap (λ hs. agrees false (key_row ts nulls fs) (key_row ts nulls hs)) (sym k.0)
      ∙ meet_self false (key_row ts nulls fs) (present_if (has_key nulls fs) (rowkey ts fs) k.1)

  keys_all : agrees false (key_row ts nulls fs) (key_row ts nulls gs) ≡ all_meet nulls fs gs
  keys_all = bool_ext (agrees false (key_row ts nulls fs) (key_row ts nulls gs)) (all_meet nulls fs gs) to_rows to_keys

-- BY PLACES

from_one : (a n : ℕ) → range_with_len (a + 1) n ≡ map suc (range_with_len a n)
from_one a zero = refl
from_one a (suc n) = let e : a + 1 ≡ suc a = omega arith in λ i. e i ∷ from_one (a + 1) n i

all_places : (ts : List Kind) (nulls : ℕ → Bool) (fs gs : List Datum) → IsKeyRow ts fs → IsKeyRow ts gs → all_meet nulls fs gs ≡ rows_meet nulls (length ts) fs gs
all_places [] nulls [] [] l r = refl
all_places (t ∷ ts) nulls (f ∷ fs) (g ∷ gs) l r =
    let at : ℕ → Bool = λ p. agrees (nulls p) (get_or (f ∷ fs) p null) (get_or (g ∷ gs) p null) in
    ap (λ b. agrees (nulls 0) f g && b)
    (all_places ts (λ p. nulls (suc p)) fs gs l.1 r.1
    ∙ sym (ap (list_all at) (from_one 0 (length ts)) ∙ list_all-map at suc (row_numbers (length ts))))
all_places [] nulls (f ∷ fs) gs l r = absurd l
all_places [] nulls [] (g ∷ gs) l r = absurd r
all_places (t ∷ ts) nulls [] gs l r = absurd l
all_places (t ∷ ts) nulls (f ∷ fs) [] l r = absurd r

pub keys_meet : (ts : List Kind) (nulls : ℕ → Bool) (fs gs : List Datum) → IsKeyRow ts fs → IsKeyRow ts gs
    → agrees false (key_row ts nulls fs) (key_row ts nulls gs) ≡ rows_meet nulls (length ts) fs gs
keys_meet ts nulls fs gs l r = keys_all ts nulls fs gs l r ∙ all_places ts nulls fs gs l r
