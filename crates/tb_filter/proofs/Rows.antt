-- The rows that pass: that they run upwards, and the tables of them.
use Rattle.std.proofs.Common.{◌≡◌, ◌∙◌, ◌+◌, ◌<◌, ◌≤◌, ℕ, zero, suc, Bool, true, false, cond, List, [], ◌∷◌, length, get_or, map, refl, ap, arith, sym, subst, Option, Some}
use Rattle.std.specs.Prelude.{All, AllPairs, IsSome, filter}
use Rattle.std.specs.List.{range_with_len}
use Rattle.std.proofs.lemmas.List.{ext_get_or, get_or-map, length-map}
use Rattle.std.proofs.lemmas.List.Elements.{All-cons, All-map, All-nil, All-tail}
use Rattle.std.proofs.lemmas.List.FromFn.{get_or-map-range_with_len, length-map-range_with_len, length-range_with_len}
use Rattle.tb_value.specs.declared.index.JoinPair.{JoinPair}
use Rattle.tb_value.specs.declared.sorted.IsSorted.TheVariants.{Ascending}
use Rattle.tb_value.specs.Promise.Datum.{Datum, null}
use Rattle.tb_value.specs.Promise.Pairs.{left_only, row_numbers}
use Rattle.tb_value.proofs.Loops.{map-map}
use Rattle.tb_value.proofs.RowNumbers.{rows_below}
use Rattle.tb_chunk.specs.Promise.Col.{Col, values}
use Rattle.tb_chunk.specs.Changed.{opt_taken_rows}
use Rattle.tb_chunk.specs.Rows.{IsRowOf, value_or_null}
use Rattle.tb_frame.specs.Promise.Table.{IsTable, Table, TableColumn, height, plain_column, table_of}
use Rattle.tb_frame.proofs.Taking.{IsTable-opt_taken, values-opt_taken}
use Rattle.tb_gather.specs.Gathered.{gathered_rows}
use Rattle.tb_gather.specs.Ids.{AreAllRowsInOrder, IsRowUpTo}
use Rattle.tb_filter.specs.Promise.Filtered.{Check, passes, rows_kept, with_rows}

-- ROWS THAT RUN UPWARDS

abbrev Up : List ℕ → Type 0
Up = AllPairs (λ (i j : ℕ). i ≤ j)

abbrev From : ℕ → List ℕ → Type 0
From a = All (λ i. a ≤ i)

up_cons : (a : ℕ) (xs : List ℕ) → From a xs → Up xs → Up (a ∷ xs)
up_cons a xs from up zero zero d low high = absurd (omega (arith, low))
up_cons a xs from up zero (suc j) d low high = from j d (omega (arith, high))
up_cons a xs from up (suc i) zero d low high = absurd (omega (arith, low))
up_cons a xs from up (suc i) (suc j) d low high = up i j d (omega (arith, low)) (omega (arith, high))

none_up : Up []
none_up = λ i j d low high. absurd (omega (arith, high))

-- those of some numbers in a row that pass
kept_from : (p : ℕ → Bool) (a b n : ℕ) → a ≤ b → From a (filter p (range_with_len b n))
kept_from p a b zero h = All-nil (λ i. a ≤ i)
kept_from p a b (suc n) h = at (p b) (kept_from p a (b + 1) n (omega (arith, h)))
  where
    at : (c : Bool) → From a (filter p (range_with_len (b + 1) n)) → From a (cond c (b ∷ filter p (range_with_len (b + 1) n)) (filter p (range_with_len (b + 1) n)))
    at true r = All-cons (λ i. a ≤ i) b (filter p (range_with_len (b + 1) n)) h r
    at false r = r

kept_up : (p : ℕ → Bool) (b n : ℕ) → Up (filter p (range_with_len b n))
kept_up p b zero = none_up
kept_up p b (suc n) = at (p b) (kept_up p (b + 1) n)
  where
    at : (c : Bool) → Up (filter p (range_with_len (b + 1) n)) → Up (cond c (b ∷ filter p (range_with_len (b + 1) n)) (filter p (range_with_len (b + 1) n)))
    at true r = up_cons b (filter p (range_with_len (b + 1) n)) (kept_from p b (b + 1) n (omega arith)) r
    at false r = r

some_up : (xs : List ℕ) → Up xs → AllPairs IsRowUpTo (map (λ i. Some i) xs)
some_up xs up i j d low high =
    let long = length-map xs (λ (k : ℕ). Some k) in
    subst (λ (r : Option ℕ). IsRowUpTo r (get_or (map (λ k. Some k) xs) j d)) (sym (get_or-map (λ (k : ℕ). Some k) xs i 0 d (omega (arith, low, high, long))))
    (subst (λ (r : Option ℕ). IsRowUpTo (Some (get_or xs i 0)) r) (sym (get_or-map (λ (k : ℕ). Some k) xs j 0 d (omega (arith, high, long)))) (up i j 0 low (omega (arith, high, long))))

pub kept_in_order : (k : Check) (c : TableColumn) → AreAllRowsInOrder Ascending (map (λ i. Some i) (rows_kept k c))
kept_in_order k c =
    let rows : List ℕ = rows_kept k c in
    (All-map (λ (row : Option ℕ). IsSome row) (λ (i : ℕ). Some i) rows (λ i d low. refl), some_up rows (kept_up (λ i. passes k (get_or c.values i null)) 0 (length c.values)))

-- HOW MANY PASS

pub kept_few : {X : Type 0} (p : X → Bool) (xs : List X) → length (filter p xs) ≤ length xs
kept_few p [] = omega arith
kept_few {X} p (x ∷ xs) = at (p x) (kept_few p xs)
  where
    at : (b : Bool) → length (filter p xs) ≤ length xs → length (cond b (x ∷ filter p xs) (filter p xs)) ≤ length (x ∷ xs)
    at true h = omega (arith, h)
    at false h = omega (arith, h)

all_kept : {X : Type 0} (p : X → Bool) (xs : List X) → length (filter p xs) ≡ length xs → filter p xs ≡ xs
all_kept p [] h = refl
all_kept {X} p (x ∷ xs) h = at (p x) (kept_few p xs) (all_kept p xs) h
  where
    at : (b : Bool) → length (filter p xs) ≤ length xs → (length (filter p xs) ≡ length xs → filter p xs ≡ xs) → length (cond b (x ∷ filter p xs) (filter p xs)) ≡ length (x ∷ xs) → cond b (x ∷ filter p xs) (filter p xs) ≡ x ∷ xs
    at true few same e = ap (λ (l : List X). x ∷ l) (same (omega (arith, e)))
    at false few same e = absurd (omega (arith, e, few))

-- all rows of a list
pub values_back : (vs : List Datum) → map (λ i. get_or vs i null) (row_numbers (length vs)) ≡ vs
values_back vs =
    let f : ℕ → Datum = λ i. get_or vs i null in
    let long = length-map-range_with_len f 0 (length vs) in
    ext_get_or null (map f (row_numbers (length vs))) vs long (λ i low. get_or-map-range_with_len f 0 (length vs) i i null (omega (arith, long)) (omega arith))

-- THE TABLES

with_all : (t : Table) (n : ℕ) → All (λ (c : TableColumn). length c.values ≡ n) t → with_rows (row_numbers n) t ≡ t
with_all [] n level = refl
with_all (c ∷ cs) n level =
    let same : map (λ i. get_or c.values i null) (row_numbers n) ≡ c.values = ap (λ (m : ℕ). map (λ i. get_or c.values i null) (row_numbers m)) (sym (level 0 c (omega arith))) ∙ values_back c.values in
    λ t. record { name = c.name; kind = c.kind; values = same t } ∷ with_all cs n (All-tail (λ (d : TableColumn). length d.values ≡ n) c cs level) t

pub all_pass : (k : Check) (c : TableColumn) (t : Table) → IsTable t → length c.values ≡ height t → length (rows_kept k c) ≡ height t → with_rows (rows_kept k c) t ≡ t
all_pass k c t table long many =
    let n : ℕ = length c.values in
    let rows : List ℕ = row_numbers n in
    let whole : length rows ≡ n = length-row_numbers n in
    ap (λ (ks : List ℕ). with_rows ks t) (all_kept (λ i. passes k (get_or c.values i null)) rows (many ∙ sym long ∙ sym whole))
    ∙ with_all t n (λ i d low. table.one_height i d low ∙ sym long)
  where
    length-row_numbers : (n : ℕ) → length (row_numbers n) ≡ n
    length-row_numbers n = sym (length-map (row_numbers n) (λ (i : ℕ). i)) ∙ length-map-range_with_len (λ (i : ℕ). i) 0 n

pub rows_of_pairs : (rows : List ℕ) → map (λ (p : JoinPair). p.left) (map left_only rows) ≡ map (λ i. Some i) rows
rows_of_pairs rows = map-map (λ (p : JoinPair). p.left) left_only rows

gathered_one : (rows : List ℕ) (c : Col) → plain_column (gathered_rows (map (λ i. Some i) rows) Ascending c) ≡ record (plain_column c) { values = map (λ i. get_or (values c) i null) rows }
gathered_one rows c =
    let same : values (gathered_rows (map (λ i. Some i) rows) Ascending c) ≡ map (λ i. get_or (values c) i null) rows =
    values-opt_taken (map (λ i. Some i) rows) c ∙ map-map (value_or_null (values c)) (λ (i : ℕ). Some i) rows in
    λ t. record { name = c.name; kind = c.kind; values = same t }

pub gathered_table : (rows : List ℕ) (cs : List Col) → table_of (map (gathered_rows (map (λ i. Some i) rows) Ascending) cs) ≡ with_rows rows (table_of cs)
gathered_table rows [] = refl
gathered_table rows (c ∷ cs) = λ t. gathered_one rows c t ∷ gathered_table rows cs t

pub gathered_is_table : (rows : List ℕ) (cs : List Col) → IsTable (table_of cs) → IsTable (table_of (map (gathered_rows (map (λ i. Some i) rows) Ascending) cs))
gathered_is_table rows cs h =
    let taken : List (Option ℕ) = map (λ i. Some i) rows in
    subst IsTable (map-map plain_column (opt_taken_rows taken) cs ∙ sym (map-map plain_column (gathered_rows taken Ascending) cs)) (IsTable-opt_taken taken cs h)

-- each row that passes is one of the column
pub kept_below : (k : Check) (c : TableColumn) (n : ℕ) → length c.values ≡ n → All (IsRowOf n) (map (λ i. Some i) (rows_kept k c))
kept_below k c n long =
    All-map (IsRowOf n) (λ (i : ℕ). Some i) (rows_kept k c) (subst (λ (m : ℕ). All (λ i. i < m) (rows_kept k c)) long (kept_hold (λ i. passes k (get_or c.values i null)) (λ i. i < length c.values) (row_numbers (length c.values)) (rows_below (length c.values))))
  where
    kept_hold : (p : ℕ → Bool) (P : ℕ → Type 0) (xs : List ℕ) → All P xs → All P (filter p xs)
    kept_hold p P [] h = All-nil P
    kept_hold p P (x ∷ xs) h = at (p x) (kept_hold p P xs (All-tail P x xs h))
      where
        at : (b : Bool) → All P (filter p xs) → All P (cond b (x ∷ filter p xs) (filter p xs))
        at true r = All-cons P x (filter p xs) (h 0 x (omega arith)) r
        at false r = r

-- no more pass than there are
pub kept_count : (k : Check) (c : TableColumn) → length (rows_kept k c) ≤ length c.values
kept_count k c =
    let few = kept_few (λ i. passes k (get_or c.values i null)) (row_numbers (length c.values)) in
    let long = length-range_with_len 0 (length c.values) in
    omega (arith, few, long)
