-- The laws over the definitions of the join.
use Rattle.std.specs.Prelude.{◌≡◌, ◌≢◌, ◌↔◌, AllPairs, Bool, ℕ, ◌+◌, ◌<◌, ◌≤◌, min, true, false, List, [], ◌∷◌, map, length, replicate, pos, negsuc, Some, None, IsPermutation, codes}
use Rattle.std.specs.Bool.{Decides}
use Rattle.tb_value.specs.declared.index.JoinPair.{JoinPair}
use Rattle.tb_value.specs.Promise.Datum.{Datum, null}
use Rattle.tb_value.specs.Promise.Kind.{int32, int64}
use Rattle.tb_value.specs.Promise.Kind as kind
use Rattle.tb_value.specs.declared.error.Side.TheVariants as side
use Rattle.tb_value.specs.declared.error.InvalidCause.TheVariants.{NoKeys, KeyCounts, NullFlags, KeyKind}
use Rattle.tb_value.specs.declared.error.ComputeCause.TheVariants.{KeyTypes, Validation}
use Rattle.tb_value.specs.declared.error.PolarsError.TheVariants.{ColumnNotFound, InvalidOperation, ComputeError, Duplicate}
use Rattle.tb_value.specs.Promise.Pairs.{both, left_only}
use Rattle.tb_value.specs.Pairs.{times, turn}
use Rattle.tb_value.specs.Promise.Same.{same}
use Rattle.tb_frame.specs.declared.args.Direction.TheVariants.{Free}
use Rattle.tb_frame.specs.declared.args.JoinCoalesce.TheVariants.{JoinSpecific, CoalesceColumns}
use Rattle.tb_frame.specs.declared.args.JoinType.{JoinType}
use Rattle.tb_frame.specs.declared.args.JoinType.TheVariants.{Inner, Left, Right, Semi, Anti}
use Rattle.tb_frame.specs.declared.args.JoinValidation.TheVariants.{ManyToOne, OneToMany}
use Rattle.tb_frame.specs.declared.args.MaintainOrderJoin.TheVariants as order
use Rattle.tb_frame.specs.declared.args.MaintainOrderJoin.{MaintainOrderJoin}
use Rattle.tb_frame.specs.declared.null_flags.JoinNulls.TheVariants.{All, Each}
use Rattle.tb_frame.specs.Promise.Table.{Table, IsTable, height}
use Rattle.tb_frame.specs.Promise.Join.{Request, IsAnswer, IsOrdered, cut, direction, field, listing, listing_of, matches, nulls_match}
use Rattle.tb_frame.specs.Join.{CoalescesAlike}
use Rattle.tb_frame.specs.Promise.Refusal.{join_refusal, join_valid}
use Rattle.tb_frame.specs.Sides.{asking, exchanged_request, flip}
use Rattle.tb_frame.specs.Meaning.{Agree}
use Rattle.tb_join.specs.Rows.{null_keys, full_right_left, cut_thrice, left_by_right, two_keys, two_keys_joined, split_texts, repeated_keys, validated, absent_by_turns, absent_twice, by_flagged_keys, by_keys, of_kinds, taken_name, number, numbers, keys, k_name, k_right_name}

-- two answers to one request whose order is fixed are equal
abbrev pub OneAnswer : Type 0
OneAnswer = (q : Request) (s t : Table) → direction q.args.how q.args.maintain_order ≢ Free
    → IsAnswer q s → IsAnswer q t → s ≡ t

-- each left row stands in exactly one of the Semi and Anti listings, and once
abbrev pub Parts : Type 0
Parts = (q : Request) (i : ℕ) → i < height q.left
    → times i (listing (asking Semi q)) + times i (listing (asking Anti q)) ≡ 1

-- each left row stands in a pair of a Left listing, and in one alone if the listing is as long as the left table
abbrev pub Kept : Type 0
Kept = (q : Request) (i : ℕ) → q.args.how ≡ Left → i < height q.left
    → (1 ≤ times i (listing q)) × (length (listing q) ≡ height q.left → times i (listing q) ≡ 1)

-- the Right listing is, up to order, the Left listing of the exchanged request with each pair turned round
abbrev pub Turned : Type 0
Turned = (q : Request)
    → IsPermutation (map turn (listing (asking Left (exchanged_request q))))
    (listing (asking Right q))

-- pairs are in an order for the one where they are, turned round, in the flipped order for the other
abbrev pub TurnedOrder : Type 0
TurnedOrder = (q : Request) (o : MaintainOrderJoin) (ps : List JoinPair)
    → IsOrdered Right o ps (listing (asking Right q)) ↔ IsOrdered Left (flip o) (map turn ps)
    (listing (asking Left (exchanged_request q)))

-- two rows match exactly where their fields agree at every place that both key lists have
abbrev pub MatchesMean : Type 0
MatchesMean = (q : Request) (i j : ℕ)
    → Decides (matches q i j)
    ((p : ℕ) → p < min (length q.left_keys) (length q.right_keys)
    → Agree (nulls_match q p) (field q.left_keys p i) (field q.right_keys p j))

-- the test of two values is their equality
abbrev pub SameValue : Type 0
SameValue = (a b : Datum) → Decides (same a b) (a ≡ b)

-- Null matches no row, or Null alone where that is asked
abbrev pub NullKeys : Type 0
NullKeys = (listing (null_keys false) ≡ both 0 1 ∷ both 0 2 ∷ [])
    × (listing (null_keys true) ≡ both 0 1 ∷ both 0 2 ∷ both 1 0 ∷ [])

-- flags that are all the same, as many as keys, list what one flag for all keys lists
abbrev pub EqualFlags : Type 0
EqualFlags = (q : Request) (b : Bool)
    → listing
    (record q { args = record q.args { join_nulls = Each (replicate (length q.left_keys) b) } })
    ≡ listing (record q { args = record q.args { join_nulls = All b } })

-- of two keys each has its own flag
abbrev pub FlaggedKeys : Type 0
FlaggedKeys =
    (listing (absent_by_turns (true ∷ false ∷ [])) ≡ both 0 0 ∷ [])
    × (listing (absent_by_turns (true ∷ true ∷ [])) ≡ both 0 0 ∷ both 1 1 ∷ [])
    × (listing (absent_by_turns (false ∷ false ∷ [])) ≡ [])

-- and a row counts where the flags of its absent keys are true
abbrev pub FlaggedTwins : Type 0
FlaggedTwins =
    (join_refusal (absent_twice (true ∷ false ∷ [])) ≡ Some (ComputeError (Validation side.Left)))
    × (join_refusal (absent_twice (false ∷ true ∷ [])) ≡ None)

-- flags that are not as many as the keys are refused after keys that are not as many on both sides, and before repeated ones
abbrev pub RefusedFlags : Type 0
RefusedFlags =
    (join_refusal (absent_by_turns (true ∷ [])) ≡ Some (InvalidOperation (NullFlags 1 2)))
    × (join_refusal (by_flagged_keys [] (k_name ∷ k_name ∷ []) (k_name ∷ []))
    ≡ Some (InvalidOperation (KeyCounts 2 1)))
    × (join_refusal (by_flagged_keys (true ∷ []) (k_name ∷ k_name ∷ []) (k_name ∷ k_name ∷ []))
    ≡ Some (InvalidOperation (NullFlags 1 2)))

-- a Full join in the order of the right table, with two key columns and with one
abbrev pub two_columns : Table
two_columns = numbers k_name (null ∷ number 1 ∷ number 3 ∷ [])
    ∷ numbers k_right_name (number 2 ∷ number 1 ∷ null ∷ []) ∷ []

abbrev pub FullRightLeft : Type 0
FullRightLeft =
    IsAnswer (full_right_left JoinSpecific) two_columns
    × IsAnswer (full_right_left CoalesceColumns) (keys (number 2 ∷ number 1 ∷ number 3 ∷ []))

-- slices that begin before the first row, have no length, begin after the last row, and end after it; without one all rows are valid
abbrev pub SlicedRows : Type 0
SlicedRows =
    IsAnswer (cut_thrice (Some (negsuc 4, 3))) (keys (number 1 ∷ []))
    × IsAnswer (cut_thrice (Some (pos 0, 0))) (keys [])
    × IsAnswer (cut_thrice (Some (pos 3, 1))) (keys [])
    × IsAnswer (cut_thrice (Some (negsuc 0, 18446744073709551615))) (keys (number 3 ∷ []))
    × (join_refusal (cut_thrice None) ≡ None)

-- a request of two tables that is not refused, and that merges columns of one type if any, has an answer
abbrev pub SomeAnswer : Type 0
SomeAnswer = (q : Request) → IsTable q.left → IsTable q.right → CoalescesAlike q → join_valid q
    → (t : Table) × IsAnswer q t

-- no pair stands twice in a listing, whichever rows match
abbrev pub EachOnce : Type 0
EachOnce = (how : JoinType) (l r : ℕ) (m : ℕ → ℕ → Bool)
    → AllPairs (λ (a b : JoinPair). a ≢ b) (listing_of how l r m)

-- a left row without a match comes last in the order of the right table
abbrev pub LeftByRight : Type 0
LeftByRight =
    IsOrdered Left order.Right (both 2 0 ∷ both 1 1 ∷ left_only 0 ∷ []) (listing left_by_right)

-- a Right join on two keys lacks the left keys, and has Null where there is no left row
abbrev pub TwoKeys : Type 0
TwoKeys = IsAnswer two_keys two_keys_joined

-- keys are compared one by one
abbrev pub SplitTexts : Type 0
SplitTexts = (listing (split_texts Inner) ≡ [])
    × (listing (split_texts Semi) ≡ [])
    × (listing (split_texts Anti) ≡ left_only 0 ∷ [])

-- a left row with two matches stands once in a Semi join
abbrev pub RepeatedKeys : Type 0
RepeatedKeys =
    (listing (repeated_keys Semi) ≡ left_only 0 ∷ left_only 2 ∷ [])
    × (listing (repeated_keys Anti) ≡ left_only 1 ∷ left_only 3 ∷ [])
    × (cut (Some (pos 1, 5)) (listing (repeated_keys Anti)) ≡ left_only 3 ∷ [])

-- validation asks one side, and does not count Null keys unless they match
abbrev pub Validations : Type 0
Validations =
    (join_refusal (validated (number 1 ∷ number 1 ∷ []) ManyToOne false) ≡ None)
    × (join_refusal (validated (number 1 ∷ number 1 ∷ []) OneToMany false)
    ≡ Some (ComputeError (Validation side.Left)))
    × (join_refusal (validated (null ∷ null ∷ []) OneToMany false) ≡ None)
    × (join_refusal (validated (null ∷ null ∷ []) OneToMany true)
    ≡ Some (ComputeError (Validation side.Left)))

-- refused keys
abbrev pub RefusedKeys : Type 0
RefusedKeys =
    (join_refusal (by_keys (codes "z" ∷ []) (k_name ∷ [])) ≡ Some (ColumnNotFound (codes "z")))
    × (join_refusal (by_keys [] []) ≡ Some (InvalidOperation NoKeys))
    × (join_refusal (by_keys (k_name ∷ k_name ∷ []) (k_name ∷ []))
    ≡ Some (InvalidOperation (KeyCounts 2 1)))
    × (join_refusal (by_keys (k_name ∷ k_name ∷ []) (k_name ∷ k_name ∷ []))
    ≡ Some (Duplicate k_name))

-- refused types and names
abbrev pub RefusedColumns : Type 0
RefusedColumns =
    (join_refusal (of_kinds int64 int32) ≡ Some (ComputeError (KeyTypes 0)))
    × (join_refusal (of_kinds (kind.list int64) (kind.list int64))
    ≡ Some (InvalidOperation (KeyKind 0)))
    × (join_refusal taken_name ≡ Some (Duplicate (codes "x_right")))
