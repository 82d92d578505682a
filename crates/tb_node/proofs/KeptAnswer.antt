-- A filter on a left column commutes with a Left join.
use Rattle.std.proofs.Common.{◌≡◌, ℕ, zero, suc, ◌<◌, min, Bool, true, false, cond, if◌then◌else◌, List, [], ◌∷◌, ◌++◌, length, get_or, map, refl, ap, arith, sym, ◌∙◌, subst, subst₂, not, ◌+◌, ◌&&◌, ⊎_elim, ℤ, Option, Some, None}
use Rattle.std.specs.Prelude.{filter, option_map, position, unwrap_or, All}
use Rattle.std.specs.Option.{option_and_then}
use Rattle.std.specs.List.{filter_map, cons_option, flat_map, list_all, list_any}
use Rattle.std.proofs.lemmas.List.{get_or-map, length-append, length-map, map-append, same_lists, ext_get_or}
use Rattle.std.proofs.lemmas.Bool.{cases_Bool}
use Rattle.std.proofs.lemmas.List.Elements.{All-nil, All-append, All-map, All-weaker}
use Rattle.std.proofs.lemmas.List.Sorted.{All-permutation}
use Rattle.tb_value.specs.Promise.Datum.{Datum, null}
use Rattle.tb_value.specs.Promise.Names.{Name, same_name}
use Rattle.tb_value.specs.Promise.Pairs.{both, left_only, left_unmet, matched_pairs, row_numbers}
use Rattle.tb_value.specs.declared.index.JoinPair.{JoinPair}
use Rattle.tb_value.proofs.Loops.{map-map}
use Rattle.tb_chunk.specs.Rows.{IsRowOf}
use Rattle.tb_frame.specs.declared.args.JoinArgs.{JoinArgs}
use Rattle.tb_frame.specs.declared.args.JoinType.{JoinType}
use Rattle.tb_frame.specs.declared.args.JoinType.TheVariants.{Left}
use Rattle.tb_frame.specs.Answer.{IsPairOf, fill}
use Rattle.tb_frame.specs.Promise.Join.{IsAnswer, IsOrdered, Out, Request, by_names, columns_where, cut, field, kept_left_columns, left_field, left_out, listing_of, matches, column_named, flag_at, out, out_row, partner, right_key, right_out, shown_right_columns, value_at}
use Rattle.tb_value.specs.Promise.Same.{agrees}
use Rattle.tb_frame.specs.Promise.Naming.{coalesces, drops_left_keys, is_among, keeps_left, coalesces_keys}
use Rattle.tb_value.specs.Promise.Kind.{Kind}
use Rattle.tb_frame.specs.Promise.Table.{IsTable, TableColumn, Table, height, names_of, row_at, rows_of, schema_of}
use Rattle.tb_frame.proofs.AnswerLemmas.{level-fill, rows-fill}
use Rattle.tb_frame.proofs.Frames.{level_height}
use Rattle.tb_frame.proofs.Outs.{schema-out}
use Rattle.tb_frame.proofs.Tables.{length-rows_of, row_is, field_is}
use Rattle.tb_frame.proofs.Listings.{listing-same}
use Rattle.tb_frame.proofs.Ranges.{listing_rows}
use Rattle.tb_filter.specs.Promise.Filtered.{Check, passes, rows_kept, with_rows}
use Rattle.tb_node.specs.Kept.{kept, over_all, passes_row}
use Rattle.tb_value.proofs.Kept.{filter-map}
use Rattle.tb_node.proofs.KeptRows.{kept_pairs}
use Rattle.tb_node.proofs.KeptColumns.{kept_column, kept_rows}

-- ROWS OF A TABLE

module _ (ks : List ℕ) where
  abbrev pub with_one : TableColumn → TableColumn
  with_one c = record c { values = map (λ i. get_or c.values i null) ks }

  named_with : (t : Table) (n : Name) → column_named (with_rows ks t) n ≡ option_map with_one (column_named t n)
  named_with [] n = refl
  named_with (c ∷ cs) n = at (same_name c.name n) (named_with cs n)
    where
      at : (b : Bool) → column_named (with_rows ks cs) n ≡ option_map with_one (column_named cs n) → cond b (Some (with_one c)) (column_named (with_rows ks cs) n) ≡ option_map with_one (cond b (Some c) (column_named cs n))
      at true e = refl
      at false e = e

  cons_with : (o : Option TableColumn) (l : List TableColumn) → cons_option (option_map with_one o) (map with_one l) ≡ map with_one (cons_option o l)
  cons_with None l = refl
  cons_with (Some c) l = refl

  pub keys_with : (t : Table) (ns : List Name) → filter_map (column_named (with_rows ks t)) ns ≡ map with_one (filter_map (column_named t) ns)
  keys_with t [] = refl
  keys_with t (n ∷ ns) = (λ i. cons_option (named_with t n i) (keys_with t ns i)) ∙ cons_with (column_named t n) (filter_map (column_named t) ns)

  pub field_with : (keys : List TableColumn) (p i : ℕ) → i < length ks → field (map with_one keys) p i ≡ field keys p (get_or ks i 0)
  field_with [] p i low = refl
  field_with (c ∷ cs) zero i low = get_or-map (λ j. get_or c.values j null) ks i 0 null low
  field_with (c ∷ cs) (suc p) i low = field_with cs p i low

  pub matches_with : (l r : Table) (lo ro : List Name) (a : JoinArgs) (i j : ℕ) → i < length ks
      → matches (by_names (with_rows ks l) r lo ro a) i j ≡ matches (by_names l r lo ro a) (get_or ks i 0) j
  matches_with l r lo ro a i j low =
      let lk : List TableColumn = filter_map (column_named l) lo in
      let rk : List TableColumn = filter_map (column_named r) ro in
      ap (λ (keys : List TableColumn). list_all (λ p. agrees (flag_at a.join_nulls p) (field keys p i) (field rk p j)) (row_numbers (min (length keys) (length rk)))) (keys_with l lo)
      ∙ (λ t. list_all (λ p. agrees (flag_at a.join_nulls p) (field_with lk p i low t) (field rk p j)) (row_numbers (min (length-map lk with_one t) (length rk))))

  pub height_with : (t : Table) → 0 < length t → height (with_rows ks t) ≡ length ks
  height_with [] wide = absurd (omega (arith, wide))
  height_with (c ∷ cs) wide = length-map ks (λ i. get_or c.values i null)

-- COLUMNS

pub no_partner : (q : Request) (n : Name) → q.args.how ≡ Left → partner q n ≡ None
no_partner q n how = ap (λ (h : JoinType). if coalesces_keys h (coalesces q.args) then option_and_then (right_key q) (position (same_name n) q.left_on) else None) how

module _ (p : ℕ → Bool) (n : ℕ) (l r : Table) (lo ro : List Name) (a : JoinArgs) (how : a.how ≡ Left) (qs : List JoinPair) (range : All (λ (pair : JoinPair). IsRowOf (length (kept p n)) pair.left) qs) where
  abbrev ks : List ℕ
  ks = kept p n

  abbrev up : JoinPair → JoinPair
  up = over_all p n

  abbrev whole : Request
  whole = by_names l r lo ro a

  abbrev part : Request
  part = by_names (with_rows (kept p n) l) r lo ro a

  left_column : (c : TableColumn) → fill qs (left_out part (with_one (kept p n) c)) ≡ fill (map (over_all p n) qs) (left_out whole c)
  left_column c =
      let values : map (left_field (partner part c.name) (with_one (kept p n) c)) qs ≡ map (left_field (partner whole c.name) c) (map (over_all p n) qs) =
      ap (λ (o : Option TableColumn). map (left_field o (with_one (kept p n) c)) qs) (no_partner part c.name how)
      ∙ kept_column p n c qs range
      ∙ sym (ap (λ (o : Option TableColumn). map (left_field o c) (map (over_all p n) qs)) (no_partner whole c.name how)) in
      λ t. record { name = c.name; kind = c.kind; values = values t }

  left_columns : (cs : Table) → map (fill qs) (map (left_out part) (map (with_one (kept p n)) cs)) ≡ map (fill (map (over_all p n) qs)) (map (left_out whole) cs)
  left_columns [] = refl
  left_columns (c ∷ cs) = λ t. left_column c t ∷ left_columns cs t

  right_columns : (taken : List Name) (cs : Table) → map (fill qs) (map (right_out taken a.suffix) cs) ≡ map (fill (map (over_all p n) qs)) (map (right_out taken a.suffix) cs)
  right_columns taken [] = refl
  right_columns taken (c ∷ cs) =
      let values : map (λ (pair : JoinPair). value_at c pair.right) qs ≡ map (λ (pair : JoinPair). value_at c pair.right) (map (over_all p n) qs) = sym (map-map (λ (pair : JoinPair). value_at c pair.right) (over_all p n) qs) in
      λ t. record { name = (right_out taken a.suffix c).name; kind = c.kind; values = values t } ∷ right_columns taken cs t

  pub same_columns : map (fill qs) (out part) ≡ map (fill (map (over_all p n) qs)) (out whole)
  same_columns =
      let kl : Table = kept_left_columns whole in
      let sr : Table = shown_right_columns whole in
      let lefts : kept_left_columns part ≡ map (with_one (kept p n)) kl = filter-map (with_one (kept p n)) (λ (c : TableColumn). keeps_left a lo c.name) l in
      let taken : names_of (map (with_one (kept p n)) kl) ≡ names_of kl = map-map (λ (c : TableColumn). c.name) (with_one (kept p n)) kl in
      ap (λ (cs : Table). map (fill qs) (map (left_out part) cs ++ map (right_out (names_of cs) a.suffix) sr)) lefts
      ∙ ap (λ (ns : List Name). map (fill qs) (map (left_out part) (map (with_one (kept p n)) kl) ++ map (right_out ns a.suffix) sr)) taken
      ∙ map-append (fill qs) (map (left_out part) (map (with_one (kept p n)) kl)) (map (right_out (names_of kl) a.suffix) sr)
      ∙ (λ t. left_columns kl t ++ right_columns (names_of kl) sr t)
      ∙ sym (map-append (fill (map (over_all p n) qs)) (map (left_out whole) kl) (map (right_out (names_of kl) a.suffix) sr))

-- AN ANSWER IS ITS COLUMNS OVER ITS PAIRS

same_col : (c d : TableColumn) → c.name ≡ d.name → c.kind ≡ d.kind → c.values ≡ d.values → c ≡ d
same_col c d n y v = λ i. record { name = n i; kind = y i; values = v i }

-- tables of one schema and equal rows, whose columns are as long as the table is high
module _ (s t : Table) (hs : All (λ (c : TableColumn). length c.values ≡ height s) s) (ht : All (λ (c : TableColumn). length c.values ≡ height t) t) (schema : schema_of s ≡ schema_of t) (rows : rows_of s ≡ rows_of t) where
  wide : length s ≡ length t
  wide = sym (length-map s (λ (c : TableColumn). (c.name, c.kind))) ∙ ap length schema ∙ length-map t (λ (c : TableColumn). (c.name, c.kind))

  high : height s ≡ height t
  high = sym (length-rows_of s) ∙ ap length rows ∙ length-rows_of t

  kind_at : (k : ℕ) (d : TableColumn) → k < length s → ((get_or s k d).name ≡ (get_or t k d).name) × ((get_or s k d).kind ≡ (get_or t k d).kind)
  kind_at k d h =
      let e : Name × Kind = (d.name, d.kind) in
      let here = get_or-map (λ (c : TableColumn). (c.name, c.kind)) s k d e h in
      let in_t : k < length t = omega (arith, h, wide) in
      let there = get_or-map (λ (c : TableColumn). (c.name, c.kind)) t k d e in_t in
      let both : ◌≡◌ {A = Name × Kind} ((get_or s k d).name, (get_or s k d).kind) ((get_or t k d).name, (get_or t k d).kind) = sym here ∙ ap (λ (xs : List (Name × Kind)). get_or xs k e) schema ∙ there in
      (ap (λ (p : Name × Kind). p.0) both, ap (λ (p : Name × Kind). p.1) both)

  one_value : (k : ℕ) (d : TableColumn) → k < length s → (i : ℕ) → i < height s → get_or (get_or s k d).values i null ≡ get_or (get_or t k d).values i null
  one_value k d h i low =
      let in_t : k < length t = omega (arith, h, wide) in
      let low_t : i < height t = omega (arith, low, high) in
      let row : row_at s i ≡ row_at t i = sym (row_is s i low) ∙ ap (λ (xs : List (List Datum)). get_or xs i []) rows ∙ row_is t i low_t in
      sym (field_is s i k d h) ∙ ap (λ (r : List Datum). get_or r k null) row ∙ field_is t i k d in_t

  values_at : (k : ℕ) (d : TableColumn) → k < length s → (get_or s k d).values ≡ (get_or t k d).values
  values_at k d h =
      let in_t : k < length t = omega (arith, h, wide) in
      let long_s : length (get_or s k d).values ≡ height s = hs k d h in
      let long_t : length (get_or t k d).values ≡ height t = ht k d in_t in
      ext_get_or null (get_or s k d).values (get_or t k d).values (long_s ∙ high ∙ sym long_t) (λ i low. one_value k d h i (omega (arith, low, long_s)))

  pub level_table : s ≡ t
  level_table = same_lists s t wide (λ k d h. same_col (get_or s k d) (get_or t k d) (kind_at k d h).0 (kind_at k d h).1 (values_at k d h))

pub filled : (q : Request) (t : Table) (x : IsAnswer q t) → q.args.slice ≡ None → 0 < length (out q) → t ≡ map (fill x.pairs) (out q)
filled q t x whole some =
    level_table t (map (fill x.pairs) (out q)) x.table.one_height
    (level_height (length x.pairs) (map (fill x.pairs) (out q)) (level-fill x.pairs (out q)))
    (x.columns ∙ sym (map-map (λ (c : TableColumn). (c.name, c.kind)) (fill x.pairs) (out q) ∙ schema-out q))
    (x.rows ∙ ap (λ (s : Option (ℤ × ℕ)). map (out_row q) (cut s x.pairs)) whole ∙ sym (rows-fill x.pairs (out q) some))

-- A FILTER BEFORE AND AFTER

all_flat : {X Y : Type 0} (P : Y → Type 0) (f : X → List Y) (xs : List X) → ((x : X) → All P (f x)) → All P (flat_map f xs)
all_flat P f [] h = All-nil P
all_flat P f (x ∷ xs) h = All-append P (f x) (flat_map f xs) (h x) (all_flat P f xs h)

filter_under : {X : Type 0} (f g : X → Bool) (xs : List X) → All (λ x. f x ≡ g x) xs → filter f xs ≡ filter g xs
filter_under f g [] h = refl
filter_under {X} f g (x ∷ xs) h =
    let rest : filter f xs ≡ filter g xs = filter_under f g xs (λ k d low. h (suc k) d (omega (arith, low))) in
    λ t. cond (h 0 x (omega arith) t) (x ∷ rest t) (rest t)

-- what holds of a pair of two rows, and of a left row alone, holds of a Left listing
left_all : (P : JoinPair → Type 0) (l r : ℕ) (m : ℕ → ℕ → Bool) → ((i j : ℕ) → P (both i j)) → ((i : ℕ) → P (left_only i)) → All P (listing_of Left l r m)
left_all P l r m two one = All-append P (matched_pairs l r m) (left_unmet l r m)
    (all_flat P (λ i. map (both i) (filter (m i) (row_numbers r))) (row_numbers l) (λ i. All-map P (both i) (filter (m i) (row_numbers r)) (λ k d low. two i (get_or (filter (m i) (row_numbers r)) k d))))
    (All-map P left_only (filter (λ i. not (list_any (m i) (row_numbers r))) (row_numbers l)) (λ k d low. one (get_or (filter (λ i. not (list_any (m i) (row_numbers r))) (row_numbers l)) k d)))

pub kept_answers : (l r : Table) (lo ro : List Name) (a : JoinArgs) (k : Check) (col oc : TableColumn) (t u : Table)
    → a.how ≡ Left → a.slice ≡ None → 0 < length l → height l ≡ length col.values
    → 0 < length (out (by_names l r lo ro a)) → 0 < length (out (by_names (with_rows (rows_kept k col) l) r lo ro a))
    → (x : IsAnswer (by_names l r lo ro a) t) → IsAnswer (by_names (with_rows (rows_kept k col) l) r lo ro a) u
    → oc.values ≡ map (λ (pair : JoinPair). value_at col pair.left) x.pairs
    → with_rows (rows_kept k oc) t ≡ u
kept_answers l r lo ro a k col oc t u how whole wide level some some' x y is =
    let p : ℕ → Bool = λ i. passes k (get_or col.values i null) in
    let n : ℕ = length col.values in
    let q : Request = by_names l r lo ro a in
    let q' : Request = by_names (with_rows (kept p n) l) r lo ro a in
    let c : Out = record { name = oc.name; kind = oc.kind; at = λ pair. value_at col pair.left } in
    let ordered : IsOrdered Left a.maintain_order x.pairs (listing_of Left n (height r) (matches q)) =
    subst₂ (λ (h : JoinType) (m : ℕ). IsOrdered h a.maintain_order x.pairs (listing_of h m (height r) (matches q))) how level x.ordered in
    let ordered' : IsOrdered Left a.maintain_order y.pairs (listing_of Left (length (kept p n)) (height r) (matches q')) =
    subst₂ (λ (h : JoinType) (m : ℕ). IsOrdered h a.maintain_order y.pairs (listing_of h m (height r) (matches q'))) how (height_with (kept p n) l wide) y.ordered in
    let range : All (λ (pair : JoinPair). IsRowOf (length (kept p n)) pair.left) y.pairs =
    All-permutation (λ (pair : JoinPair). IsRowOf (length (kept p n)) pair.left) (listing_of Left (length (kept p n)) (height r) (matches q')) y.pairs ordered'.permutation
    (All-weaker (IsPairOf (length (kept p n)) (height r)) (λ (pair : JoinPair). IsRowOf (length (kept p n)) pair.left) (λ pair h. h.0) (listing_of Left (length (kept p n)) (height r) (matches q')) (listing_rows Left (length (kept p n)) (height r) (matches q'))) in
    let same : listing_of Left (length (kept p n)) (height r) (matches q') ≡ listing_of Left (length (kept p n)) (height r) (λ i j. matches q (get_or (kept p n) i 0) j) =
    listing-same Left (length (kept p n)) (height r) (matches q') (λ i j. matches q (get_or (kept p n) i 0) j) (λ i j low lower. matches_with (kept p n) l r lo ro a i j low) in
    let pairs : map (over_all p n) y.pairs ≡ filter (λ (pair : JoinPair). passes_row p pair.left) x.pairs =
    kept_pairs a.maintain_order p n (height r) (matches q) x.pairs y.pairs ordered (subst (λ (ls : List JoinPair). IsOrdered Left a.maintain_order y.pairs ls) same ordered') in
    let tests : All (λ (pair : JoinPair). passes k (value_at col pair.left) ≡ passes_row p pair.left) x.pairs =
    All-permutation (λ (pair : JoinPair). passes k (value_at col pair.left) ≡ passes_row p pair.left) (listing_of Left n (height r) (matches q)) x.pairs ordered.permutation
    (left_all (λ (pair : JoinPair). passes k (value_at col pair.left) ≡ passes_row p pair.left) n (height r) (matches q) (λ i j. refl) (λ i. refl)) in
    (λ i. with_rows (filter (λ j. passes k (get_or (is i) j null)) (row_numbers (length (is i)))) (filled q t x whole some i))
    ∙ kept_rows k c (out q) x.pairs
    ∙ ap (λ (ps : List JoinPair). map (fill ps) (out q)) (filter_under (λ (pair : JoinPair). passes k (value_at col pair.left)) (λ (pair : JoinPair). passes_row p pair.left) x.pairs tests ∙ sym pairs)
    ∙ sym (same_columns p n l r lo ro a how y.pairs range)
    ∙ sym (filled q' u y whole some')

-- BY THE COLUMN'S NAME

pub named_holds : (P : TableColumn → Type 0) (t : Table) (n : Name) (c : TableColumn) → All P t → column_named t n ≡ Some c → P c
named_holds P [] n c all is = absurd (cc)
named_holds P (d ∷ ds) n c all is = ⊎_elim
    (λ y. let same : Some d ≡ Some c = sym (ap (λ b. cond b (Some d) (column_named ds n)) y) ∙ is in
    subst P (ap (λ (o : Option TableColumn). unwrap_or o d) same) (all 0 d (omega arith)))
    (λ e. named_holds P ds n c (λ k f low. all (suc k) f (omega (arith, low))) (sym (ap (λ b. cond b (Some d) (column_named ds n)) e) ∙ is))
    (cases_Bool (same_name d.name n))

pub named_some : (t : Table) (n : Name) (c : TableColumn) → column_named t n ≡ Some c → 0 < length t
named_some [] n c is = absurd (cc)
named_some (d ∷ ds) n c is = omega arith

-- a Left join keeps all left columns
all_kept : (q : Request) → q.args.how ≡ Left → kept_left_columns q ≡ q.left
all_kept q how = ap (λ (h : JoinType). columns_where (λ n. not (drops_left_keys h (coalesces q.args) && is_among q.left_on n)) q.left) how ∙ every q.left
  where
    every : (t : Table) → columns_where (λ n. true) t ≡ t
    every [] = refl
    every (c ∷ cs) = ap (λ (l : Table). c ∷ l) (every cs)

named_first : (ps : List JoinPair) (f : TableColumn → Out) (l rest : Table) (n : Name) (c : TableColumn) → ((d : TableColumn) → (f d).name ≡ d.name) → column_named l n ≡ Some c
    → column_named (map (fill ps) (map f l) ++ rest) n ≡ Some (fill ps (f c))
named_first ps f [] rest n c names is = absurd (cc)
named_first ps f (d ∷ ds) rest n c names is = ⊎_elim
    (λ y. let same : Some d ≡ Some c = sym (ap (λ b. cond b (Some d) (column_named ds n)) y) ∙ is in
    ap (λ (m : Name). cond (same_name m n) (Some (fill ps (f d))) (column_named (map (fill ps) (map f ds) ++ rest) n)) (names d)
    ∙ ap (λ b. cond b (Some (fill ps (f d))) (column_named (map (fill ps) (map f ds) ++ rest) n)) y
    ∙ ap (option_map (λ (e : TableColumn). fill ps (f e))) same)
    (λ e. ap (λ (m : Name). cond (same_name m n) (Some (fill ps (f d))) (column_named (map (fill ps) (map f ds) ++ rest) n)) (names d)
    ∙ ap (λ b. cond b (Some (fill ps (f d))) (column_named (map (fill ps) (map f ds) ++ rest) n)) e
    ∙ named_first ps f ds rest n c names (sym (ap (λ b. cond b (Some d) (column_named ds n)) e) ∙ is))
    (cases_Bool (same_name d.name n))

wide_out : (q : Request) → q.args.how ≡ Left → 0 < length q.left → 0 < length (out q)
wide_out q how wide =
    let long : length (out q) ≡ length (map (left_out q) (kept_left_columns q)) + length (map (right_out (names_of (kept_left_columns q)) q.args.suffix) (shown_right_columns q)) = length-append (map (left_out q) (kept_left_columns q)) (map (right_out (names_of (kept_left_columns q)) q.args.suffix) (shown_right_columns q)) in
    let lefts : length (map (left_out q) (kept_left_columns q)) ≡ length q.left = length-map (kept_left_columns q) (left_out q) ∙ ap length (all_kept q how) in
    omega (arith, long, lefts, wide)

pub kept_filter : (l r : Table) (lo ro : List Name) (a : JoinArgs) (n : Name) (k : Check) (col oc : TableColumn) (t u : Table)
    → a.how ≡ Left → a.slice ≡ None → IsTable l → column_named l n ≡ Some col
    → IsAnswer (by_names l r lo ro a) t → IsAnswer (by_names (with_rows (rows_kept k col) l) r lo ro a) u
    → column_named t n ≡ Some oc
    → with_rows (rows_kept k oc) t ≡ u
kept_filter l r lo ro a n k col oc t u how whole table there x y found =
    let q : Request = by_names l r lo ro a in
    let rows : List ℕ = rows_kept k col in
    let q' : Request = by_names (with_rows rows l) r lo ro a in
    let wide : 0 < length l = named_some l n col there in
    let level : height l ≡ length col.values = sym (named_holds (λ (c : TableColumn). length c.values ≡ height l) l n col table.one_height there) in
    let some : 0 < length (out q) = wide_out q how wide in
    let long : length (with_rows rows l) ≡ length l = length-map l (with_one rows) in
    let some' : 0 < length (out q') = wide_out q' how (omega (arith, long, wide)) in
    let rest : List Out → Table = λ os. map (fill x.pairs) os in
    let rights : List Out = map (right_out (names_of (kept_left_columns q)) a.suffix) (shown_right_columns q) in
    let stands : column_named t n ≡ Some (fill x.pairs (left_out q col)) =
    ap (λ (s : Table). column_named s n) (filled q t x whole some)
    ∙ ap (λ (s : Table). column_named s n) (map-append (fill x.pairs) (map (left_out q) (kept_left_columns q)) rights)
    ∙ ap (λ (s : Table). column_named (map (fill x.pairs) (map (left_out q) s) ++ rest rights) n) (all_kept q how)
    ∙ named_first x.pairs (left_out q) l (rest rights) n col (λ d. refl) there in
    let same : Some oc ≡ Some (fill x.pairs (left_out q col)) = sym found ∙ stands in
    let values : oc.values ≡ map (λ (pair : JoinPair). value_at col pair.left) x.pairs =
    ap (λ (o : Option TableColumn). (unwrap_or o oc).values) same
    ∙ ap (λ (o : Option TableColumn). map (left_field o col) x.pairs) (no_partner q col.name how) in
    kept_answers l r lo ro a k col oc t u how whole wide level some some' x y values

-- the answer's column of the name has the type of the left one
pub named_kind : (l r : Table) (lo ro : List Name) (a : JoinArgs) (n : Name) (col oc : TableColumn) (t : Table)
    → a.how ≡ Left → a.slice ≡ None → IsAnswer (by_names l r lo ro a) t → column_named l n ≡ Some col → column_named t n ≡ Some oc → oc.kind ≡ col.kind
named_kind l r lo ro a n col oc t how whole x there found =
    let q : Request = by_names l r lo ro a in
    let some : 0 < length (out q) = wide_out q how (named_some l n col there) in
    let rights : List Out = map (right_out (names_of (kept_left_columns q)) a.suffix) (shown_right_columns q) in
    let stands : column_named t n ≡ Some (fill x.pairs (left_out q col)) =
    ap (λ (s : Table). column_named s n) (filled q t x whole some)
    ∙ ap (λ (s : Table). column_named s n) (map-append (fill x.pairs) (map (left_out q) (kept_left_columns q)) rights)
    ∙ ap (λ (s : Table). column_named (map (fill x.pairs) (map (left_out q) s) ++ map (fill x.pairs) rights) n) (all_kept q how)
    ∙ named_first x.pairs (left_out q) l (map (fill x.pairs) rights) n col (λ d. refl) there in
    ap (λ (o : Option TableColumn). (unwrap_or o oc).kind) (sym found ∙ stands)
