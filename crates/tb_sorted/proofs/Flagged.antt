-- Columns that are flagged as ascending, and their one chunk.
use Rattle.std.proofs.Common.{◌≡◌, ℕ, zero, suc, ◌<◌, ◌==◌, Bool, true, false, cond, ◌&&◌, ◌||◌, List, [], ◌∷◌, length, get_or, refl, sym, ap, ◌∙◌, subst, arith, append-nil, eqb-true}
use Rattle.std.specs.Prelude.{IsSorted as IsInOrder, if◌then◌else◌}
use Rattle.tb_value.specs.Promise.Datum.{Datum, null, is_null, is_present}
use Rattle.tb_value.specs.Promise.Same.{agrees, same}
use Rattle.tb_value.specs.Promise.Typed.{is_whole_physical}
use Rattle.tb_value.specs.declared.sorted.IsSorted.{IsSorted}
use Rattle.tb_value.specs.declared.sorted.IsSorted.TheVariants.{Ascending, Descending, Not}
use Rattle.tb_chunk.specs.Promise.Col.{Col, concatenation, values}
use Rattle.tb_chunk.specs.Col.{IsColumn}
use Rattle.tb_cell.specs.Promise.Flag.{datum_cmp, nulls}
use Rattle.tb_chunk.specs.Flag.{FlagHolds, present_values}
use Rattle.tb_frame.specs.declared.args.Direction.TheVariants.{ByLeft}
use Rattle.tb_frame.specs.declared.args.JoinType.{JoinType}
use Rattle.tb_frame.specs.declared.args.JoinType.TheVariants.{Left, Right}
use Rattle.tb_frame.proofs.Listings.{listing-same}
use Rattle.tb_pool.specs.Promise.ExecView.{ExecView}
use Rattle.tb_keys.specs.Promise.Listing.{value_listing}
use Rattle.tb_sorted.specs.Columns.{AreMergeKeys, DoOthersAscend, MayMerge}
use Rattle.tb_sorted.specs.Keys.{kind_of_merge}
use Rattle.tb_sorted.specs.Promise.Path.{are_ordered, have_order, is_flagged, is_inner, is_merge_key, is_worth}
use Rattle.tb_sorted.specs.Path.{AreKeysToMerge, order_after, sorted_first}
use Rattle.tb_sorted.specs.declared.path.SortedFirst.{SortedFirst}
use Rattle.tb_sorted.specs.declared.path.SortedFirst.TheVariants as the

pub first_of : (a b : Bool) → (a && b) ≡ true → a ≡ true
first_of true b e = refl
first_of false b e = absurd (cc)

pub second_of : (a b : Bool) → (a && b) ≡ true → b ≡ true
second_of true b e = e
second_of false b e = absurd (cc)

-- where none is Null, all are present
pub all_present : (vs : List Datum) → length (nulls vs) ≡ 0 → present_values vs ≡ vs
all_present [] none = refl
all_present (v ∷ vs) none = at (is_null v) refl (all_present vs)
  where
    later : is_null v ≡ false → length (nulls vs) ≡ 0
    later e = ap (λ (b : Bool). length (cond b (v ∷ nulls vs) (nulls vs))) (sym e) ∙ none

    at : (b : Bool) → is_null v ≡ b → (length (nulls vs) ≡ 0 → present_values vs ≡ vs) → present_values (v ∷ vs) ≡ v ∷ vs
    at true e rest = absurd (let c : length (v ∷ nulls vs) ≡ 0 = ap (λ (b : Bool). length (cond b (v ∷ nulls vs) (nulls vs))) (sym e) ∙ none in omega (arith, c))
    at false e rest = rw e (ap (λ (xs : List Datum). v ∷ xs) (rest (later e)))

flag_is : (flag : IsSorted) → is_flagged flag ≡ true → flag ≡ Ascending
flag_is Ascending e = refl
flag_is Descending e = absurd (cc)
flag_is Not e = absurd (cc)

-- a key that can be merged has no Null
pub no_nulls : (c : Col) → is_merge_key c ≡ true → length (nulls (values c)) ≡ 0
no_nulls c key = eqb-true (length (nulls (values c))) 0 (second_of (is_whole_physical c.kind) (length (nulls (values c)) == 0) key)

merge_keys : (c : Col) → IsColumn c → is_merge_key c ≡ true → AreMergeKeys (values c)
merge_keys c column key = record { present = no_nulls c key; few = column.short }

-- and ascends where it is flagged
flagged_ascend : (c : Col) → IsColumn c → is_merge_key c ≡ true → is_flagged c.flag ≡ true → IsInOrder datum_cmp (values c)
flagged_ascend c column key flagged =
    let ordered : FlagHolds Ascending c.kind (values c) = subst (λ (f : IsSorted). FlagHolds f c.kind (values c)) (flag_is c.flag flagged) column.flag_holds in
    subst (IsInOrder datum_cmp) (all_present (values c) (no_nulls c key)) ordered.1

-- two keys that have the order for a merge, one of which may be sorted first
abbrev pub first_by : Bool → Bool → SortedFirst
first_by left right = (if left then (if right then the.Neither else the.Right) else the.Left)

module _ (us vs : List Datum) where
  by_flags : (keep a b x y : Bool) → (a ≡ true → IsInOrder datum_cmp us) → (b ≡ true → IsInOrder datum_cmp vs)
      → ((a && b) || ((a && x) || (is_inner (kind_of_merge keep) && b && y))) ≡ true → DoOthersAscend (first_by a b) keep us vs
  by_flags keep true true x y l r h = (l refl, r refl)
  by_flags keep true false x y l r h = l refl
  by_flags false false true x y l r h = (refl, r refl)
  by_flags true false true x y l r h = absurd (cc)
  by_flags true false false x y l r h = absurd (cc)
  by_flags false false false x y l r h = absurd (cc)

has_order : (keep : Bool) (exec : ExecView) (l r : Col) → are_ordered (kind_of_merge keep) exec l r ≡ true → have_order (kind_of_merge keep) exec l r ≡ true
has_order true exec l r h = h
has_order false exec l r h = h

pub may_merge : (keep : Bool) (exec : ExecView) (l r : Col) → IsColumn l → IsColumn r → AreKeysToMerge (kind_of_merge keep) exec l r → MayMerge (sorted_first l r) keep (values l) (values r)
may_merge keep exec l r left right h = record {
  left = merge_keys l left h.left;
  right = merge_keys r right h.right;
  ascend =
      by_flags (values l) (values r) keep (is_flagged l.flag) (is_flagged r.flag) (is_worth exec (length (values r)) (length (values l))) (is_worth exec (length (values l)) (length (values r)))
      (flagged_ascend l left h.left) (flagged_ascend r right h.right) (has_order keep exec l r h.ordered);
}

-- keys of a Right join are those of a Left join the other way round
pub turned_keys : (exec : ExecView) (l r : Col) → AreKeysToMerge Right exec l r → AreKeysToMerge Left exec r l
turned_keys exec l r h = record { same = sym h.same; left = h.right; right = h.left; ordered = h.ordered }

-- where the left rows without a match are kept, the pairs stand by left rows
left_first_by : (a b x y : Bool) → ((a && b) || ((a && x) || (false && b && y))) ≡ true → order_after (first_by a b) ≡ ByLeft
left_first_by true true x y h = refl
left_first_by true false x y h = refl
left_first_by false b x y h = absurd (cc)

pub by_left : (exec : ExecView) (l r : Col) → have_order Left exec l r ≡ true → order_after (sorted_first l r) ≡ ByLeft
by_left exec l r h = left_first_by (is_flagged l.flag) (is_flagged r.flag) (is_worth exec (length (values r)) (length (values l))) (is_worth exec (length (values l)) (length (values r))) h

-- Nulls that aren't there match or not
none_null : (vs : List Datum) → length (nulls vs) ≡ 0 → (i : ℕ) → i < length vs → is_null (get_or vs i null) ≡ false
none_null [] none i low = absurd (omega arith)
none_null (v ∷ vs) none i low = at (is_null v) refl i low (none_null vs)
  where
    at : (b : Bool) → is_null v ≡ b → (i : ℕ) → i < length (v ∷ vs) → (length (nulls vs) ≡ 0 → (k : ℕ) → k < length vs → is_null (get_or vs k null) ≡ false) → is_null (get_or (v ∷ vs) i null) ≡ false
    at true e i low rest = absurd (let c : length (v ∷ nulls vs) ≡ 0 = ap (λ (b : Bool). length (cond b (v ∷ nulls vs) (nulls vs))) (sym e) ∙ none in omega (arith, c))
    at false e zero low rest = e
    at false e (suc i) low rest = rest (ap (λ (b : Bool). length (cond b (v ∷ nulls vs) (nulls vs))) (sym e) ∙ none) i (omega arith)

pub nulls_apart : (null_matches : Bool) (how : JoinType) (us vs : List Datum) → length (nulls us) ≡ 0 → value_listing false how us vs ≡ value_listing null_matches how us vs
nulls_apart null_matches how us vs none =
    listing-same how (length us) (length vs) (λ i j. agrees false (get_or us i null) (get_or vs j null)) (λ i j. agrees null_matches (get_or us i null) (get_or vs j null))
    (λ i j low under.
    let a : Datum = get_or us i null in
    let b : Datum = get_or vs j null in
    let no : is_null a ≡ false = none_null us none i low in
    let here : Bool = is_present a && is_present b && same a b in
    ◌∙◌ {A = Bool} (λ t. here || (no t && is_null b && false)) (λ t. here || (sym no t && is_null b && null_matches)))

-- a list alone
pub alone : (vs : List Datum) → concatenation (vs ∷ []) ≡ vs
alone vs = append-nil vs

-- the same of the chunk that it has
pub lone_list : (c : Col) (lists : List (List Datum)) → lists ≡ values c ∷ [] → concatenation lists ≡ values c
lone_list c lists is = ap concatenation is ∙ alone (values c)

-- one list of values is all of them
pub only_list : (lists : List (List Datum)) → length lists ≡ 1 → lists ≡ concatenation lists ∷ []
only_list [] one = absurd (omega arith)
only_list (vs ∷ []) one = λ t. sym (append-nil vs) t ∷ []
only_list (vs ∷ ws ∷ lists) one = absurd (omega arith)
