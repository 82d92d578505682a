-- Requests whose key columns are given beside the tables.
use Rattle.std.specs.Prelude.{◌≡◌, ◌==◌, ◌&&◌, not, ℕ, Bool, true, if◌then◌else◌, List, [], ◌∷◌, map, length, Option, None, Result, ℤ}
use Rattle.std.specs.List.{list_all}
use Rattle.tb_value.specs.Promise.Names.{Name}
use Rattle.tb_value.specs.Promise.Refusals.{first_cause, when}
use Rattle.tb_value.specs.Promise.SameKind.{is_key}
use Rattle.tb_value.specs.declared.error.PolarsError.{PolarsError}
use Rattle.tb_value.specs.declared.error.PolarsError.TheVariants.{ShapeMismatch}
use Rattle.tb_chunk.specs.Changed.{part_of}
use Rattle.tb_chunk.specs.Promise.Col.{Col, values}
use Rattle.tb_frame.specs.declared.args.JoinArgs.{JoinArgs}
use Rattle.tb_frame.specs.declared.args.JoinType.{JoinType}
use Rattle.tb_frame.specs.declared.args.JoinType.TheVariants.{Full, Semi, Anti}
use Rattle.tb_frame.specs.declared.null_flags.JoinNulls.{JoinNulls}
use Rattle.tb_frame.specs.declared.null_flags.JoinNulls.TheVariants.{All}
use Rattle.tb_frame.specs.Promise.Join.{Request}
use Rattle.tb_frame.specs.Join.{CoalescesAlike}
use Rattle.tb_frame.specs.Promise.Naming.{coalesces, coalesces_keys}
use Rattle.tb_frame.specs.Promise.Refusal.{first_unknown, list_causes, name_causes, repeated_name, row_causes}
use Rattle.tb_frame.specs.Refusal.{fits, given_refusal}
use Rattle.tb_frame.specs.Sides.{asking}
use Rattle.tb_frame.specs.Promise.Table.{height, names_of, plain_column, table_of}
use Rattle.tb_keys.specs.Promise.Answers.{IsJoinUnless}
use Rattle.tb_join.specs.Promise.Asked.{plain_args}

-- the request by columns that are given, under their names
abbrev pub given_request : List Col → List Col → List Col → List Col → JoinArgs → Request
given_request left right left_keys right_keys args = record {
  left = table_of left;
  right = table_of right;
  left_on = names_of (table_of left_keys);
  right_on = names_of (table_of right_keys);
  left_keys = table_of left_keys;
  right_keys = table_of right_keys;
  args = args;
}

-- the same by one column of each side, asked for a kind, whichever the arguments name
abbrev pub by_series : JoinType → List Col → List Col → Col → Col → JoinArgs → Request
by_series how left right l r args = asking how (given_request left right (l ∷ []) (r ∷ []) args)

-- the left rows with a match, or with `anti` those without one; the right side is its key column alone
abbrev pub semi_or_anti : Bool → JoinType
semi_or_anti anti = (if anti then Anti else Semi)

abbrev pub by_match : Bool → Bool → Option (ℤ × ℕ) → List Col → Col → Col → Request
by_match anti nulls slice left l r = given_request left (r ∷ []) (l ∷ []) (r ∷ [])
    (record (plain_args (semi_or_anti anti)) { slice = slice; join_nulls = All nulls })

-- both have one key type
pub record AreKeys (l r : Col) : Type 0 where
  pub key : is_key l.kind ≡ true
  pub same : l.kind ≡ r.kind

-- and they are as long as their tables are high
pub record StandBeside (left right : List Col) (l r : Col) : Type 0 where
  pub types : AreKeys l r
  pub left_rows : length (values l) ≡ height (table_of left)
  pub right_rows : length (values r) ≡ height (table_of right)

-- where keys are coalesced, their names are columns of their tables, and two columns that are coalesced have one type
pub record CanCoalesce (q : Request) : Type 0 where
  pub known_left : coalesces_keys q.args.how (coalesces q.args) ≡ true
      → first_unknown q.left q.left_on ≡ None
  pub known_right : coalesces_keys q.args.how (coalesces q.args) ≡ true
      → first_unknown q.right q.right_on ≡ None
  pub alike : CoalescesAlike q

-- keys beside a table of that height, without their values where it has no rows
abbrev pub emptied_column : Col → Col
emptied_column c = part_of 0 0 c

abbrev pub cleared_columns : ℕ → List Col → List Col
cleared_columns n keys = (if n == 0 then map emptied_column keys else keys)

-- each key is as long as its table is high, or has one value beside a table without rows
abbrev pub all_fit : ℕ → List Col → Bool
all_fit n keys = list_all (λ (c : Col). fits n (plain_column c)) keys

-- a key of a side is not
abbrev pub misfit : List Col → List Col → List Col → List Col → Option PolarsError
misfit left right left_keys right_keys = when
    (not
    (all_fit (height (table_of left)) left_keys
    && all_fit (height (table_of right)) right_keys))
    ShapeMismatch

-- the causes before the keys' types: unknown names, misfit keys, and then what the lists of names and flags are refused for
abbrev pub early_refusal : List Col → List Col → List Col → List Col → JoinNulls → List Name
    → List Name → Option PolarsError
early_refusal left right left_keys right_keys nulls left_on right_on =
    first_cause
    (first_cause (name_causes (table_of left) (table_of right) left_on right_on) ∷ misfit left right left_keys right_keys
    ∷ first_cause (list_causes nulls left_on right_on) ∷ [])

-- the causes once the keys' columns stand: a name of the answer is repeated, a side has twins and may not, or there are too many pairs
abbrev pub paired_refusal : Request → Option PolarsError
paired_refusal q = first_cause (repeated_name q ∷ row_causes q)

-- what the join of two tables by given columns answers, and the Full join by one column of each side
abbrev pub IsGivenJoin : List Col → List Col → List Col → List Col → JoinArgs
    → Result (List Col) PolarsError → Type 0
IsGivenJoin left right left_keys right_keys args = let q = given_request left right left_keys right_keys args in IsJoinUnless (given_refusal q) q

abbrev pub IsFullJoin : List Col → List Col → Col → Col → JoinArgs → Result (List Col) PolarsError
    → Type 0
IsFullJoin left right l r args = let q = by_series Full left right l r args in
    IsJoinUnless (paired_refusal q) q
