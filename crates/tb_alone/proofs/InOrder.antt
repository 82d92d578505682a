-- What a table of keys in their order gives.
use Rattle.std.proofs.Common.{◌≡◌, ℕ, ◌+◌, ◌-◌, ◌<◌, ◌≤◌, Bool, true, false, List, length, take, drop, get_or, refl, ap, sym, subst, ◌∙◌, arith, Option, Some, None, true≢false}
use Rattle.std.specs.Prelude.{map, filter, IsSortedByKey}
use Rattle.std.specs.List.{zip}
use Rattle.std.specs.Ordering.{is_lt, is_le, is_eq}
use Rattle.std.specs.declared.cmp.Ordering.{Ordering}
use Rattle.std.specs.Cmp.{IsEquivalence, IsTotalOrder}
use Rattle.std.specs.List.Sorted.{IsPartitionedBy, IsPartitionPoint}
use Rattle.std.proofs.lemmas.List.{length-map, take_all, take-map, drop-map}
use Rattle.std.proofs.lemmas.Slice.Zip.{length-zip, get_or-zip, seconds-zip}
use Rattle.tb_value.specs.Promise.Pairs.{row_numbers}
use Rattle.tb_build.specs.Keys.{keys_match, rows_with}
use Rattle.tb_build.specs.KeyLists.{IsLent}
use Rattle.tb_build.specs.Packed.{keys_of, rows_of_key, Ascend, IsRun, KeepsItems}
use Rattle.tb_build.specs.Pieces.{AreItemsOf}
use Rattle.tb_build.proofs.Lists.{get_or-map_any, filter-never}
use Rattle.tb_build.proofs.PackedLists.{filter-run, rows-alike, zip-apart}
use Rattle.tb_build.proofs.PackedRuns.{run-searched}
use Rattle.tb_build.proofs.PieceItems.{items-rows}
use Rattle.tb_build.proofs.Rows.{rows_with-key}
use Rattle.tb_alone.specs.Tables.{IsKeyTable, rows_for}

-- keys of sorted items ascend
pub sorted-ascend : {K : Type 0} (cmp : K → K → Ordering) (items : List (K × ℕ)) → IsSortedByKey (λ (e : K × ℕ). e.0) cmp items → Ascend cmp (keys_of items) 0 (length (keys_of items))
sorted-ascend {K} cmp items sorted i d from to =
    let long = length-map items (λ (e : K × ℕ). e.0) in
    let at : (j : ℕ) → get_or (keys_of items) j d ≡ (get_or items j (d, 0)).0 = λ j. get_or-map_any (λ (e : K × ℕ). e.0) items j (d, 0) in
    ap (λ (x : K). is_lt (cmp x (get_or (keys_of items) i d))) (at (i + 1))
    ∙ ap (λ (x : K). is_lt (cmp (get_or items (i + 1) (d, 0)).0 x)) (at i)
    ∙ sorted i (d, 0) from (omega (arith, to, long))

module _ {K : Type 0} (eq : K → K → Bool) where
  -- two searches by halves find the run of the equal keys
  pub run-of_all : (cmp : K → K → Ordering) → IsTotalOrder cmp → ((x y : K) → eq x y ≡ is_eq (cmp x y)) → (keys : List K) → Ascend cmp keys 0 (length keys)
      → (k : K) (from to : ℕ) → from ≤ length keys → to ≤ length keys
      → (IsPartitionedBy (λ x. is_lt (cmp x k)) keys → IsPartitionPoint (λ x. is_lt (cmp x k) ≡ true) (λ x. is_lt (cmp x k) ≡ false) keys from)
      → (IsPartitionedBy (λ x. is_le (cmp x k)) keys → IsPartitionPoint (λ x. is_le (cmp x k) ≡ true) (λ x. is_le (cmp x k) ≡ false) keys to)
      → IsRun (eq k) keys 0 (length keys) from to
  run-of_all cmp total same keys up k from to fl tl below upto_k =
      let whole : take (length keys - 0) (drop 0 keys) ≡ keys = take_all (length keys - 0) keys (omega arith) in
      let run : IsRun (eq k) keys 0 (length keys) (0 + from) (0 + to)
      = run-searched eq cmp total same keys 0 (length keys) up (omega arith) (omega arith) k from to
      (subst (λ (b : List K). from ≤ length b) (sym whole) fl)
      (subst (λ (b : List K). to ≤ length b) (sym whole) tl)
      (subst (λ (b : List K). IsPartitionedBy (λ x. is_lt (cmp x k)) b → IsPartitionPoint (λ x. is_lt (cmp x k) ≡ true) (λ x. is_lt (cmp x k) ≡ false) b from) (sym whole) below)
      (subst (λ (b : List K). IsPartitionedBy (λ x. is_le (cmp x k)) b → IsPartitionPoint (λ x. is_le (cmp x k) ≡ true) (λ x. is_le (cmp x k) ≡ false) b to) (sym whole) upto_k)
      in
      let from_is : 0 + from ≡ from = omega arith in
      let to_is : 0 + to ≡ to = omega arith in
      subst (λ (n : ℕ). IsRun (eq k) keys 0 (length keys) from n) to_is (subst (λ (n : ℕ). IsRun (eq k) keys 0 (length keys) n (0 + to)) from_is run)

  -- the rows of a run are those of the key
  pub run-rows : (keys : List K) (rows : List ℕ) → length rows ≡ length keys → (k : K) (a b : ℕ) → IsRun (eq k) keys 0 (length keys) a b
      → take (b - a) (drop a rows) ≡ rows_of_key eq (zip keys rows) k
  run-rows keys rows many k a b r =
      let items = zip keys rows in
      let long : length items ≡ length keys = omega (arith, length-zip keys rows, many) in
      let item : (i : ℕ) (d : K × ℕ) → i < length keys → (get_or items i d).0 ≡ get_or keys i d.0
      = λ i d l. ap (λ (e : K × ℕ). e.0) (get_or-zip keys rows i d l (omega (arith, many, l)))
      in
      let run : IsRun (λ (e : K × ℕ). eq k e.0) items 0 (length items) a b
      = record {
        first = r.first;
        order = r.order;
        last = omega (arith, r.last, long);
        before = λ i d l m. ap (eq k) (item i d (omega (arith, m, r.order, r.last))) ∙ r.before i d.0 l m;
        here = λ i d l m. ap (eq k) (item i d (omega (arith, m, r.last))) ∙ r.here i d.0 l m;
        behind = λ i d l m. ap (eq k) (item i d (omega (arith, m, long))) ∙ r.behind i d.0 l (omega (arith, m, long));
      }
      in
      sym (ap (map (λ (e : K × ℕ). e.1)) (filter-run (λ (e : K × ℕ). eq k e.0) items a b run)
      ∙ sym (take-map (λ (e : K × ℕ). e.1) (b - a) (drop a items)) ∙ ap (take (b - a)) (sym (drop-map (λ (e : K × ℕ). e.1) a items))
      ∙ ap (λ (l : List ℕ). take (b - a) (drop a l)) (seconds-zip keys rows many))

  module _ (laws : IsEquivalence eq) where
    -- sorted items that were taken apart are the table of their keys
    pub is-key_table : (list : List (Option K)) (old new : List (K × ℕ)) (keys : List K) (rows : List ℕ) → AreItemsOf eq list (row_numbers (length list)) old → KeepsItems eq old new
        → keys ≡ keys_of new → rows ≡ map (λ (e : K × ℕ). e.1) new → IsKeyTable eq list (zip keys rows)
    is-key_table list old new keys rows are kept keys_are rows_are k =
        ap (λ (items : List (K × ℕ)). rows_of_key eq items k) ((λ t. zip (keys_are t) (rows_are t)) ∙ zip-apart new)
        ∙ ap (map (λ (e : K × ℕ). e.1)) (kept k)
        ∙ items-rows eq list (row_numbers (length list)) old are laws true k

    -- a key that is lent has the rows of the listed one
    pub lent-rows : (items : List (K × ℕ)) (key listed : Option K) → IsLent eq key listed → rows_for eq items key ≡ rows_for eq items listed
    lent-rows items None None h = refl
    lent-rows items None (Some y) h = absurd (true≢false (sym h))
    lent-rows items (Some x) None h = absurd (true≢false (sym h))
    lent-rows items (Some x) (Some y) h = rows-alike eq laws items x y h

  -- the rows of a table are those of the keys that match
  pub rows_for-with : (list : List (Option K)) (items : List (K × ℕ)) → IsKeyTable eq list items → (key : Option K) → rows_for eq items key ≡ rows_with eq false list key (length list)
  rows_for-with list items table (Some k) = table k ∙ rows_with-key eq true false list k (length list)
  rows_for-with list items table None = sym (ap (λ (p : ℕ → Bool). filter p (row_numbers (length list))) (λ t j. none (get_or list j None) t) ∙ filter-never (row_numbers (length list)))
    where
      none : (o : Option K) → keys_match eq false None o ≡ false
      none None = refl
      none (Some y) = refl
