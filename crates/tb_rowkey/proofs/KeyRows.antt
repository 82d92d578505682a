-- The key of a row, read from the columns one after another.
use Rattle.std.proofs.Common.{◌≡◌, ◌+◌, ◌<◌, ◌≤◌, ℕ, suc, Bool, true, false, ◌&&◌, ◌||◌, List, [], ◌∷◌, ◌++◌, ◌^◌, length, get_or, take, drop, arith, refl, ap, sym, subst, ◌∙◌}
use Rattle.std.specs.Prelude.{if◌then◌else◌}
use Rattle.std.proofs.lemmas.Bool.{false≢true}
use Rattle.std.proofs.lemmas.List.{append-nil, take_at, length-append, append_assoc, at_drop_more, at_drop_all}
use Rattle.tb_value.specs.Promise.Datum.{Datum, null, boolean, int, string, binary, list, struct, is_present}
use Rattle.tb_value.specs.Promise.Kind.{Kind}
use Rattle.tb_chunk.specs.Chunk.{or_null}
use Rattle.std.specs.List.{All}
use Rattle.tb_chunk.specs.Promise.Col.{Col, values}
use Rattle.tb_rowkey.specs.Promise.RowKey.{field_code, has_key}
use Rattle.tb_rowkey.specs.Promise.Columns.{fields_at, key_at, row_bytes, row_count}
use Rattle.tb_rowkey.specs.Columns.{IsShortRow}
use Rattle.tb_rowkey.specs.RowKeys.{bytes_of, key_of}

-- whether the fields of row i in columns that begin at place n are present, or Nulls match there
abbrev pub has_key_from : (ℕ → Bool) → ℕ → List Col → ℕ → Bool
has_key_from nulls n cs i = has_key (λ p. nulls (p + n)) (fields_at cs i)

-- from the first place it is the whole row
pub from_first : (nulls : ℕ → Bool) (cs : List Col) (i : ℕ) → has_key_from nulls 0 cs i ≡ has_key nulls (fields_at cs i)
from_first nulls cs i =
    let same : (p : ℕ) → p + 0 ≡ p = λ p. omega arith in
    λ t. has_key (λ p. nulls (same p t)) (fields_at cs i)

module _ (cs : List Col) (nulls : ℕ → Bool) (i : ℕ) where
  module _ (n : ℕ) (c : Col) (v : Datum) (low : n < length cs) (is : c ≡ get_or cs n c) (at : v ≡ get_or (values c) i null) where
    more_bytes : field_code c.kind v ++ row_bytes (drop (n + 1) cs) i ≡ row_bytes (drop n cs) i
    more_bytes =
        ap (λ w. field_code c.kind w ++ row_bytes (drop (n + 1) cs) i) at
        ∙ ap (λ (d : Col). field_code d.kind (get_or (values d) i null) ++ row_bytes (drop (n + 1) cs) i) is
        ∙ sym (at_drop_more (λ ds. row_bytes ds i) cs n c low)

    more_key : ((is_present v || nulls n) && has_key_from nulls (n + 1) (drop (n + 1) cs) i) ≡ has_key_from nulls n (drop n cs) i
    more_key =
        let rest : List Datum = fields_at (drop (n + 1) cs) i in
        let first : n ≡ 0 + n = omega arith in
        let next : (p : ℕ) → p + (n + 1) ≡ suc p + n = λ p. omega arith in
        ap (λ w. (is_present w || nulls n) && has_key_from nulls (n + 1) (drop (n + 1) cs) i) at
        ∙ ap (λ (d : Col). (is_present (get_or (values d) i null) || nulls n) && has_key_from nulls (n + 1) (drop (n + 1) cs) i) is
        ∙ (λ t. (is_present (get_or (values (get_or cs n c)) i null) || nulls (first t)) && has_key (λ p. nulls (next p t)) rest)
        ∙ sym (at_drop_more (λ ds. has_key_from nulls n ds i) cs n c low)

-- the number of rows is the first column's
pub count_read : (cs : List Col) (c : Col) (n : ℕ) → n ≡ length (values c) → 0 < length cs → c ≡ get_or cs 0 c
    → All (λ (d : Col). length (values d) ≡ row_count cs) cs → n ≡ row_count cs
count_read cs c n long some is rows = long ∙ subst (λ (d : Col). length (values d) ≡ row_count cs) (sym is) (rows 0 c some)

-- A ROW THAT IS WRITTEN

and_true : (a : Bool) → (a && true) ≡ a
and_true true = refl
and_true false = refl

and_assoc : (a b c : Bool) → ((a && b) && c) ≡ (a && (b && c))
and_assoc true b c = refl
and_assoc false b c = refl

module _ (cs : List Col) (nulls : ℕ → Bool) (i n : ℕ) where
  -- one field more
  module _ (c : Col) (low : n < length cs) (is : c ≡ get_or cs n c) where
    pub bytes_read : (bytes more all : List ℕ) → more ≡ bytes ++ field_code c.kind (get_or (values c) i null)
        → bytes ++ row_bytes (drop n cs) i ≡ all → more ++ row_bytes (drop (n + 1) cs) i ≡ all
    bytes_read bytes more all e so_far =
        let v : Datum = get_or (values c) i null in
        ap (λ l. l ++ row_bytes (drop (n + 1) cs) i) e
        ∙ append_assoc bytes (field_code c.kind v) (row_bytes (drop (n + 1) cs) i)
        ∙ ap (λ l. bytes ++ l) (more_bytes cs nulls i n c v low is refl)
        ∙ so_far

    pub key_read : (b k all : Bool) → k ≡ (b && (is_present (get_or (values c) i null) || nulls n))
        → (b && has_key_from nulls n (drop n cs) i) ≡ all → (k && has_key_from nulls (n + 1) (drop (n + 1) cs) i) ≡ all
    key_read b k all e so_far =
        let v : Datum = get_or (values c) i null in
        let next : Bool = has_key_from nulls (n + 1) (drop (n + 1) cs) i in
        ap (λ x. x && next) e
        ∙ and_assoc b (is_present v || nulls n) next
        ∙ ap (λ x. b && x) (more_key cs nulls i n c v low is refl)
        ∙ so_far

  -- all fields
  module _ (past : length cs ≤ n) where
    pub bytes_all : (bytes all : List ℕ) → bytes ++ row_bytes (drop n cs) i ≡ all → bytes ≡ all
    bytes_all bytes all e = sym (append-nil bytes) ∙ ap (λ l. bytes ++ l) (sym (at_drop_all (λ ds. row_bytes ds i) cs n past)) ∙ e

    pub key_all : (b all : Bool) → (b && has_key_from nulls n (drop n cs) i) ≡ all → b ≡ all
    key_all b all e = sym (and_true b) ∙ ap (λ x. b && x) (sym (at_drop_all (λ ds. has_key_from nulls n ds i) cs n past)) ∙ e

-- THE BYTES OF A KEY

pub no_key_written : (has_key : Bool) (s : List ℕ) → has_key ≡ false → bytes_of (if has_key then binary s else null) ≡ []
no_key_written true s e = absurd (false≢true (sym e))
no_key_written false s e = refl

pub key_written : (has_key : Bool) (s : List ℕ) → has_key ≡ true → bytes_of (if has_key then binary s else null) ≡ s
key_written true s e = refl
key_written false s e = absurd (false≢true e)

code_shown : (t : Kind) (f : Datum) (rest : List ℕ) → or_null binary (key_of (field_code t f ++ rest)) ≡ binary (field_code t f ++ rest)
code_shown t null rest = refl
code_shown t (boolean b) rest = refl
code_shown t (int z) rest = refl
code_shown t (string s) rest = refl
code_shown t (binary s) rest = refl
code_shown t (list vs) rest = refl
code_shown t (struct vs) rest = refl

shown_if : (has_key : Bool) (s : List ℕ) → or_null binary (key_of s) ≡ binary s
    → or_null binary (key_of (bytes_of (if has_key then binary s else null))) ≡ (if has_key then binary s else null)
shown_if true s e = e
shown_if false s e = refl

-- the key of a row is what its bytes are, since there are some
pub key_shown : (cs : List Col) (nulls : ℕ → Bool) (i : ℕ) → 0 < length cs → or_null binary (key_of (bytes_of (key_at cs nulls i))) ≡ key_at cs nulls i
key_shown [] nulls i some = absurd (omega (arith, some))
key_shown (c ∷ cs) nulls i some = shown_if (has_key nulls (fields_at (c ∷ cs) i)) (row_bytes (c ∷ cs) i) (code_shown c.kind (get_or (values c) i null) (row_bytes cs i))

key_below : (has_key : Bool) (s : List ℕ) → length s < 2 ^ 32 → length (bytes_of (if has_key then binary s else null)) < 2 ^ 32
key_below true s short = short
key_below false s short = omega arith

pub short_key : (cs : List Col) (nulls : ℕ → Bool) (i : ℕ) → IsShortRow cs i → length (bytes_of (key_at cs nulls i)) < 2 ^ 32
short_key cs nulls i short = key_below (has_key nulls (fields_at cs i)) (row_bytes cs i) short

pub rows_below : (cs : List Col) (n i : ℕ) → All (λ (c : Col). length (values c) ≡ n) cs → i < n → All (λ (c : Col). i < length (values c)) cs
rows_below cs n i rows low = λ k d in_cs. let long = rows k d in_cs in omega (arith, long, low)

-- what is written behind bytes, and taken away again
pub grown : (bytes more all : List ℕ) → more ≡ bytes ++ all → length more ≡ length bytes + length all
grown bytes more all e = ap length e ∙ length-append bytes all

pub taken_back : (bytes more all : List ℕ) (start : ℕ) → more ≡ bytes ++ all → start ≡ length bytes → take start more ≡ bytes
taken_back bytes more all start e f = ap (take start) e ∙ take_at bytes all start (sym f)
