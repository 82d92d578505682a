-- The small requests' answers, by computation.
use Rattle.std.proofs.Common.{◌≡◌, ℕ, zero, suc, ◌+◌, ◌<◌, ◌≤◌, Bool, true, false, not, List, [], ◌∷◌, length, get_or, Some, refl, arith, subst, sym, lit<, pos, negsuc, None}
use Rattle.std.specs.Prelude.{All, codes, IsSorted, ◌&&◌}
use Rattle.std.specs.declared.cmp.Ordering.{Ordering}
use Rattle.std.specs.Ordering.{is_lt}
use Rattle.std.proofs.lemmas.Bool.{and_parts, not-true}
use Rattle.std.proofs.lemmas.List.Elements.{All-cons, All-nil}
use Rattle.std.proofs.lemmas.List.Sorted.{IsPermutation-refl}
use Rattle.tb_value.specs.declared.index.JoinPair.{JoinPair}
use Rattle.tb_value.specs.Promise.Datum.{Datum, null}
use Rattle.tb_value.specs.Promise.Kind.{int64}
use Rattle.tb_value.specs.Promise.Typed.{HasType}
use Rattle.tb_value.specs.Promise.Pairs.{both, left_only, right_only, left_first, right_first}
use Rattle.tb_frame.specs.declared.args.JoinCoalesce.TheVariants.{JoinSpecific, CoalesceColumns}
use Rattle.tb_frame.specs.Frame.{frame_refusal}
use Rattle.tb_frame.specs.Promise.Join.{IsAnswer, IsOrdered, listing}
use Rattle.tb_frame.specs.Promise.Table.{Table, IsTable, IsTyped}
use Rattle.tb_frame.proofs.Frames.{makes_frame}
use Rattle.tb_join.specs.Laws.{two_columns}
use Rattle.tb_frame.specs.declared.args.JoinType.TheVariants.{Inner, Left}
use Rattle.tb_frame.specs.declared.args.MaintainOrderJoin.TheVariants as order
use Rattle.tb_join.specs.Rows.{full_right_left, cut_thrice, left_by_right, two_keys, two_keys_joined, number, numbers, keys, k_name, k_right_name}

-- a test that computes whether a list is sorted
abbrev pub ascends_test : {X : Type 0} → (X → X → Ordering) → List X → Bool
ascends_test cmp [] = true
ascends_test cmp (x ∷ []) = true
ascends_test cmp (x ∷ y ∷ zs) = not (is_lt (cmp y x)) && ascends_test cmp (y ∷ zs)

pub sorted_by_test : {X : Type 0} (cmp : X → X → Ordering) (xs : List X) → ascends_test cmp xs ≡ true → IsSorted cmp xs
sorted_by_test cmp [] t = λ k d low high. absurd (omega arith)
sorted_by_test cmp (x ∷ []) t = λ k d low high. absurd (omega arith)
sorted_by_test {X} cmp (x ∷ y ∷ zs) t = at (sorted_by_test cmp (y ∷ zs) (and_parts (not (is_lt (cmp y x))) (ascends_test cmp (y ∷ zs)) t).1)
  where
    at : IsSorted cmp (y ∷ zs) → (k : ℕ) (d : X) → 0 ≤ k → k + 1 < length (x ∷ y ∷ zs) → is_lt (cmp (get_or (x ∷ y ∷ zs) (k + 1) d) (get_or (x ∷ y ∷ zs) k d)) ≡ false
    at rest zero d low high = not-true (is_lt (cmp y x)) (and_parts (not (is_lt (cmp y x))) (ascends_test cmp (y ∷ zs)) t).0
    at rest (suc k) d low high =
        let e : suc k + 1 ≡ suc (k + 1) = omega arith in
        subst (λ (n : ℕ). is_lt (cmp (get_or (x ∷ y ∷ zs) n d) (get_or (x ∷ y ∷ zs) (suc k) d)) ≡ false) (sym e) (rest k d (omega arith) (omega arith))

-- columns of 64 bit numbers
typed_two : (a b : Datum) → HasType int64 a → HasType int64 b → All (HasType int64) (a ∷ b ∷ [])
typed_two a b x y = All-cons (HasType int64) a (b ∷ []) x (All-cons (HasType int64) b [] y (All-nil (HasType int64)))

typed_three : (a b c : Datum) → HasType int64 a → HasType int64 b → HasType int64 c → All (HasType int64) (a ∷ b ∷ c ∷ [])
typed_three a b c x y z = All-cons (HasType int64) a (b ∷ c ∷ []) x (typed_two b c y z)

one_typed : HasType int64 (number 1)
one_typed = (record { le = tt }, record { le = tt })

two_typed : HasType int64 (number 2)
two_typed = (record { le = tt }, record { le = tt })

three_typed : HasType int64 (number 3)
three_typed = (record { le = tt }, record { le = tt })

five_typed : HasType int64 (number 5)
five_typed = (record { le = tt }, record { le = tt })

seven_typed : HasType int64 (number 7)
seven_typed = (record { le = tt }, record { le = tt })

eight_typed : HasType int64 (number 8)
eight_typed = (record { le = tt }, record { le = tt })

nine_typed : HasType int64 (number 9)
nine_typed = (record { le = tt }, record { le = tt })

-- a table of one column of keys
keys_table : (vs : List Datum) → All (HasType int64) vs → frame_refusal (keys vs) ≡ None → IsTable (keys vs)
keys_table vs typed h = makes_frame (keys vs) (All-cons IsTyped (numbers k_name vs) [] typed (All-nil IsTyped)) h

two_columns_table : IsTable two_columns
two_columns_table =
    makes_frame two_columns
    (All-cons IsTyped (numbers k_name (null ∷ number 1 ∷ number 3 ∷ [])) (numbers k_right_name (number 2 ∷ number 1 ∷ null ∷ []) ∷ [])
    (typed_three null (number 1) (number 3) tt one_typed three_typed)
    (All-cons IsTyped (numbers k_right_name (number 2 ∷ number 1 ∷ null ∷ [])) [] (typed_three (number 2) (number 1) null two_typed one_typed tt) (All-nil IsTyped)))
    refl

abbrev last_columns : Table
last_columns = numbers (codes "d") (number 2 ∷ number 5 ∷ []) ∷ numbers (codes "w") (number 7 ∷ number 8 ∷ []) ∷ []

two_keys_table : IsTable two_keys_joined
two_keys_table =
    makes_frame two_keys_joined
    (All-cons IsTyped (numbers (codes "v") (number 9 ∷ null ∷ [])) (numbers (codes "c") (number 1 ∷ number 5 ∷ []) ∷ last_columns) (typed_two (number 9) null nine_typed tt)
    (All-cons IsTyped (numbers (codes "c") (number 1 ∷ number 5 ∷ [])) last_columns (typed_two (number 1) (number 5) one_typed five_typed)
    (All-cons IsTyped (numbers (codes "d") (number 2 ∷ number 5 ∷ [])) (numbers (codes "w") (number 7 ∷ number 8 ∷ []) ∷ []) (typed_two (number 2) (number 5) two_typed five_typed)
    (All-cons IsTyped (numbers (codes "w") (number 7 ∷ number 8 ∷ [])) [] (typed_two (number 7) (number 8) seven_typed eight_typed) (All-nil IsTyped)))))
    refl

pub full_apart : IsAnswer (full_right_left JoinSpecific) two_columns
full_apart = record {
  table = two_columns_table;
  columns = refl;
  pairs = right_only 0 ∷ both 0 1 ∷ left_only 1 ∷ [];
  ordered = record { permutation = record { moves = (1, 2) ∷ (0, 2) ∷ []; below = (lit< tt, lit< tt, (lit< tt, lit< tt, tt)); is = refl }; ascends = sorted_by_test right_first (right_only 0 ∷ both 0 1 ∷ left_only 1 ∷ []) refl };
  rows = refl;
}

pub full_merged : IsAnswer (full_right_left CoalesceColumns) (keys (number 2 ∷ number 1 ∷ number 3 ∷ []))
full_merged = record {
  table = keys_table (number 2 ∷ number 1 ∷ number 3 ∷ []) (typed_three (number 2) (number 1) (number 3) two_typed one_typed three_typed) refl;
  columns = refl;
  pairs = right_only 0 ∷ both 0 1 ∷ left_only 1 ∷ [];
  ordered = record { permutation = record { moves = (1, 2) ∷ (0, 2) ∷ []; below = (lit< tt, lit< tt, (lit< tt, lit< tt, tt)); is = refl }; ascends = sorted_by_test right_first (right_only 0 ∷ both 0 1 ∷ left_only 1 ∷ []) refl };
  rows = refl;
}

abbrev three_pairs : List JoinPair
three_pairs = both 0 0 ∷ both 1 1 ∷ both 2 2 ∷ []

three_ordered : IsOrdered Inner order.LeftRight three_pairs three_pairs
three_ordered = record { permutation = IsPermutation-refl three_pairs; ascends = sorted_by_test left_first three_pairs refl }

pub begins_before : IsAnswer (cut_thrice (Some (negsuc 4, 3))) (keys (number 1 ∷ []))
begins_before = record { table = keys_table (number 1 ∷ []) (All-cons (HasType int64) (number 1) [] one_typed (All-nil (HasType int64))) refl; columns = refl; pairs = three_pairs; ordered = three_ordered; rows = refl }

pub has_no_length : IsAnswer (cut_thrice (Some (pos 0, 0))) (keys [])
has_no_length = record { table = keys_table [] (All-nil (HasType int64)) refl; columns = refl; pairs = three_pairs; ordered = three_ordered; rows = refl }

pub begins_after : IsAnswer (cut_thrice (Some (pos 3, 1))) (keys [])
begins_after = record { table = keys_table [] (All-nil (HasType int64)) refl; columns = refl; pairs = three_pairs; ordered = three_ordered; rows = refl }

pub ends_after : IsAnswer (cut_thrice (Some (negsuc 0, 18446744073709551615))) (keys (number 3 ∷ []))
ends_after = record { table = keys_table (number 3 ∷ []) (All-cons (HasType int64) (number 3) [] three_typed (All-nil (HasType int64))) refl; columns = refl; pairs = three_pairs; ordered = three_ordered; rows = refl }

pub right_last : IsOrdered Left order.Right (both 2 0 ∷ both 1 1 ∷ left_only 0 ∷ []) (listing left_by_right)
right_last = record { permutation = record { moves = (0, 1) ∷ []; below = (lit< tt, lit< tt, tt); is = refl }; ascends = sorted_by_test right_first (both 2 0 ∷ both 1 1 ∷ left_only 0 ∷ []) refl }

abbrev right_pairs : List JoinPair
right_pairs = both 0 0 ∷ right_only 1 ∷ []

pub two_keys_answer : IsAnswer two_keys two_keys_joined
two_keys_answer = record {
  table = two_keys_table;
  columns = refl;
  pairs = right_pairs;
  ordered = record { permutation = IsPermutation-refl right_pairs; ascends = sorted_by_test right_first right_pairs refl };
  rows = refl;
}
