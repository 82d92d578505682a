-- Rows with equal keys are those whose keys agree with the keys of a row before them.
use Rattle.std.proofs.Common.{◌≡◌, ℕ, zero, suc, ◌+◌, ◌<◌, Bool, true, false, ◌&&◌, ◌||◌, List, [], ◌∷◌, length, refl, ap, sym, subst, ◌∙◌, arith}
use Rattle.std.specs.Prelude.{nat_lt}
use Rattle.std.specs.List.{list_all, list_any}
use Rattle.std.proofs.lemmas.Bool.{ltb-true, lt-ltb}
use Rattle.std.proofs.lemmas.List.{length-map}
use Rattle.tb_value.specs.Promise.Datum.{Datum, null, is_present}
use Rattle.tb_value.specs.Promise.Pairs.{row_numbers}
use Rattle.tb_value.specs.Promise.Same.{agrees, same}
use Rattle.tb_value.proofs.RowNumbers.{any_more, any_stop}
use Rattle.tb_chunk.specs.Promise.Col.{Col}
use Rattle.tb_frame.specs.Promise.Join.{field}
use Rattle.tb_frame.specs.Promise.Refusal.{has_twins, is_counted, same_keys}
use Rattle.tb_frame.specs.Promise.Table.{TableColumn, plain_column, table_of}
use Rattle.tb_build.specs.Keys.{twins_among}
use Rattle.tb_rowkey.specs.Promise.Columns.{row_count}
use Rattle.tb_rowkey.specs.Columns.{columns_meet}
use Rattle.tb_pairs.proofs.Requested.{field_is}

-- TESTS OF ROW NUMBERS

iff_false : (a b : Bool) → (a ≡ false → b ≡ false) → (b ≡ false → a ≡ false) → a ≡ b
iff_false true true f g = refl
iff_false true false f g = g refl
iff_false false true f g = sym (f refl)
iff_false false false f g = refl

case_of : (b : Bool) (P : Type 0) → (b ≡ true → P) → (b ≡ false → P) → P
case_of true P f g = f refl
case_of false P f g = g refl

pub any_false : (f : ℕ → Bool) (n : ℕ) → list_any f (row_numbers n) ≡ false → (k : ℕ) → k < n → f k ≡ false
any_false f n h k low = case_of (f k) (f k ≡ false) (λ e. absurd (let stop = any_stop f k n low e in cc)) (λ e. e)

pub any_none : (f : ℕ → Bool) (n : ℕ) → ((k : ℕ) → k < n → f k ≡ false) → list_any f (row_numbers n) ≡ false
any_none f zero h = refl
any_none f (suc n) h =
    let e : n + 1 ≡ suc n = omega arith in
    subst (λ (k : ℕ). list_any f (row_numbers k) ≡ false) e (any_more f n (any_none f n (λ k low. h k (omega arith))) (h n (omega arith)))

any_same : (f g : ℕ → Bool) (n : ℕ) → ((k : ℕ) → k < n → f k ≡ g k) → list_any f (row_numbers n) ≡ list_any g (row_numbers n)
any_same f g n h = iff_false (list_any f (row_numbers n)) (list_any g (row_numbers n)) (λ e. any_none g n (λ k low. sym (h k low) ∙ any_false f n e k low)) (λ e. any_none f n (λ k low. h k low ∙ any_false g n e k low))

pub twins_same : (n : ℕ) (m m' : ℕ → ℕ → Bool) → ((i j : ℕ) → i < n → j < n → m i j ≡ m' i j) → twins_among n m ≡ twins_among n m'
twins_same n m m' h = any_same (λ j. list_any (λ i. m i j) (row_numbers j)) (λ j. list_any (λ i. m' i j) (row_numbers j)) n (λ j low. any_same (λ i. m i j) (λ i. m' i j) j (λ i under. h i j (omega arith) low))

and_false : (a b : Bool) → a ≡ true → (a && b) ≡ false → b ≡ false
and_false a b h e = sym (ap (λ (x : Bool). x && b) h) ∙ e

-- two rows, one before the other, that match
twins_ordered : (n : ℕ) (m : ℕ → ℕ → Bool) → list_any (λ i. list_any (λ j. nat_lt i j && m i j) (row_numbers n)) (row_numbers n) ≡ twins_among n m
twins_ordered n m =
    let all : ℕ → Bool = λ i. list_any (λ j. nat_lt i j && m i j) (row_numbers n) in
    let before : ℕ → Bool = λ j. list_any (λ i. m i j) (row_numbers j) in
    iff_false (list_any all (row_numbers n)) (twins_among n m)
    (λ e. any_none before n (λ j low. any_none (λ i. m i j) j (λ i under.
    and_false (nat_lt i j) (m i j) (lt-ltb i j under)
    (any_false (λ k. nat_lt i k && m i k) n (any_false all n e i (omega arith)) j low))))
    (λ e. any_none all n (λ i low. any_none (λ j. nat_lt i j && m i j) n (λ j under.
    case_of (nat_lt i j) ((nat_lt i j && m i j) ≡ false)
    (λ is. ap (λ (b : Bool). b && m i j) is ∙ any_false (λ k. m k j) j (any_false before n e j under) i (ltb-true i j is))
    (λ is. ap (λ (b : Bool). b && m i j) is))))

-- FIELDS

or_false : (b : Bool) → b ≡ (b || false)
or_false true = refl
or_false false = refl

-- fields that count and are the same are fields that agree
counted_agree : (n : Bool) (a b : Datum) → ((is_present a || n) && (is_present b || n) && same a b) ≡ agrees n a b
counted_agree true null null = refl
counted_agree false null null = refl
counted_agree true null b = refl
counted_agree false null b = refl
counted_agree true a null = refl
counted_agree false a null = refl
counted_agree n a b = or_false (same a b)

three : (f g h p q r : Bool) → ((f && p) && (g && q) && (h && r)) ≡ ((f && g && h) && (p && q && r))
three true true true p q r = refl
three true true false true true r = refl
three true true false true false r = refl
three true true false false q r = refl
three true false h true q r = refl
three true false h false q r = refl
three false g h p q r = refl

all_three : (f g h : ℕ → Bool) (xs : List ℕ) → (list_all f xs && list_all g xs && list_all h xs) ≡ list_all (λ p. f p && g p && h p) xs
all_three f g h [] = refl
all_three f g h (x ∷ xs) = three (f x) (g x) (h x) (list_all f xs) (list_all g xs) (list_all h xs) ∙ ap (λ (b : Bool). (f x && g x && h x) && b) (all_three f g h xs)

counted_keys : (nulls : ℕ → Bool) (keys : List TableColumn) (i j : ℕ)
    → (is_counted nulls keys i && is_counted nulls keys j && same_keys keys i j) ≡ list_all (λ p. agrees (nulls p) (field keys p i) (field keys p j)) (row_numbers (length keys))
counted_keys nulls keys i j =
    all_three (λ p. is_present (field keys p i) || nulls p) (λ p. is_present (field keys p j) || nulls p) (λ p. same (field keys p i) (field keys p j)) (row_numbers (length keys))
    ∙ λ t. list_all (λ p. counted_agree (nulls p) (field keys p i) (field keys p j) t) (row_numbers (length keys))

four : (a b c d : Bool) → (a && b && c && d) ≡ (a && (b && c && d))
four true b c d = refl
four false b c d = refl

-- KEY COLUMNS

meets : (nulls : ℕ → Bool) (cs : List Col) (i j : ℕ) → list_all (λ p. agrees (nulls p) (field (table_of cs) p i) (field (table_of cs) p j)) (row_numbers (length (table_of cs))) ≡ columns_meet nulls cs cs i j
meets nulls cs i j = λ t. list_all (λ p. agrees (nulls p) (sym (field_is cs p i) t) (sym (field_is cs p j) t)) (row_numbers (length-map cs plain_column t))

-- twins among the rows of columns, of which there are n
pub columns_twins : (nulls : ℕ → Bool) (cs : List Col) (n : ℕ) → row_count cs ≡ n → has_twins nulls (table_of cs) n ≡ twins_among (row_count cs) (columns_meet nulls cs cs)
columns_twins nulls cs n high =
    let keys : List TableColumn = table_of cs in
    let counted : ℕ → ℕ → Bool = λ i j. is_counted nulls keys i && is_counted nulls keys j && same_keys keys i j in
    (λ t. list_any (λ i. list_any (λ j. four (nat_lt i j) (is_counted nulls keys i) (is_counted nulls keys j) (same_keys keys i j) t) (row_numbers n)) (row_numbers n))
    ∙ twins_ordered n counted
    ∙ twins_same n counted (columns_meet nulls cs cs) (λ i j low under. counted_keys nulls keys i j ∙ meets nulls cs i j)
    ∙ ap (λ (k : ℕ). twins_among k (columns_meet nulls cs cs)) (sym high)
