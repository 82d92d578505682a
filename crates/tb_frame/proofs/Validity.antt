-- What a request has that is not refused, and an answer to it.
use Rattle.std.proofs.Common.{◌≡◌, ◌==◌, ◌<◌, ◌≤◌, List, length, map, arith, Option, None, inl}
use Rattle.std.specs.Prelude.{All, AllPairs, ◌≢◌}
use Rattle.std.proofs.lemmas.Bool.{eqb-true}
use Rattle.tb_value.specs.Promise.Names.{Name}
use Rattle.tb_value.specs.declared.error.InvalidCause.TheVariants.{NoKeys, KeyCounts}
use Rattle.tb_value.specs.declared.error.PolarsError.{PolarsError}
use Rattle.tb_value.specs.declared.error.PolarsError.TheVariants.{ColumnNotFound, InvalidOperation, Duplicate, ComputeError}
use Rattle.tb_value.specs.declared.error.ComputeCause.TheVariants.{TooManyRows}
use Rattle.tb_value.specs.declared.index.JoinPair.{JoinPair}
use Rattle.tb_value.specs.declared.limits.TheConstants.{MAX_ROWS}
use Rattle.tb_frame.specs.Answer.{fill}
use Rattle.tb_frame.specs.Promise.Join.{Request, IsAnswer, cut, direction, listing, matches, out}
use Rattle.tb_frame.specs.Join.{CoalescesAlike}
use Rattle.tb_frame.specs.Promise.Naming.{joined_names}
use Rattle.tb_frame.specs.Promise.Refusal.{join_causes, join_valid, key_types, first_unknown, first_repeated}
use Rattle.tb_frame.specs.Promise.Table.{Table, IsTable, height, names_of}
use Rattle.tb_frame.proofs.AnswerLemmas.{answer_of, table-fill}
use Rattle.tb_frame.proofs.Causes.{map_none, no_cause, distinct_names, has_column, some_keys, some_right_keys, when_not_above}
use Rattle.tb_frame.proofs.Frames.{when_not}
use Rattle.tb_frame.proofs.InOrder.{in_order, in_order-ordered}
use Rattle.tb_frame.proofs.Outs.{out_wide, names_distinct, outs_typed}

module _ (q : Request) (valid : join_valid q) where
  none : All (λ (o : Option PolarsError). o ≡ None) (join_causes q)
  none = no_cause (join_causes q) valid

  -- there are as many keys on each side
  pub same_counts : length q.left_on ≡ length q.right_on
  same_counts = eqb-true (length q.left_on) (length q.right_on) (when_not (length q.left_on == length q.right_on) (InvalidOperation (KeyCounts (length q.left_on) (length q.right_on))) (none 3 None (omega arith)))

  -- the types of the keys agree
  pub same_types : key_types q ≡ None
  same_types = none 7 None (omega arith)

  -- the keys are columns of their tables
  pub known_left : first_unknown q.left q.left_on ≡ None
  known_left = map_none (λ n. ColumnNotFound n) (first_unknown q.left q.left_on) (none 0 None (omega arith))

  pub known_right : first_unknown q.right q.right_on ≡ None
  known_right = map_none (λ n. ColumnNotFound n) (first_unknown q.right q.right_on) (none 1 None (omega arith))

  pub some_left : 0 < length q.left
  some_left = has_column q.left q.left_on (some_keys q.left_on q.right_on (InvalidOperation NoKeys) (none 2 None (omega arith))) known_left

  pub some_right : 0 < length q.right
  some_right = has_column q.right q.right_on (some_right_keys q.left_on q.right_on (InvalidOperation NoKeys) (none 2 None (omega arith))) known_right

  pub some_out : 0 < length (out q)
  some_out = out_wide q some_left some_right

  -- no more pairs than a table has rows
  pub few_pairs : length (listing q) ≤ MAX_ROWS
  few_pairs = when_not_above MAX_ROWS (length (listing q)) (ComputeError TooManyRows) (none 12 None (omega arith))

  -- the names of the columns that are put side by side
  abbrev all_names : List Name
  all_names = joined_names q.args q.left_on q.right_on (names_of q.left) (names_of q.right)

  pub names_apart : AllPairs (λ (a b : Name). a ≢ b) (joined_names q.args q.left_on q.right_on (names_of q.left) (names_of q.right))
  names_apart = distinct_names all_names (map_none (λ n. Duplicate n) (first_repeated all_names) (none 9 None (omega arith)))

  ordered_pairs : List JoinPair
  ordered_pairs = in_order (direction q.args.how q.args.maintain_order) q.args.how (height q.left) (height q.right) (matches q)

  pub some_answer : IsTable q.left → IsTable q.right → CoalescesAlike q → (t : Table) × IsAnswer q t
  unfolding ordered_pairs
  some_answer left right alike = (
    map (fill (cut q.args.slice ordered_pairs)) (out q),
    answer_of q ordered_pairs
        (table-fill (cut q.args.slice ordered_pairs) (out q) (names_distinct q names_apart) (outs_typed q left.typed right.typed alike))
        (inl some_out) (in_order-ordered q.args.how q.args.maintain_order (height q.left) (height q.right) (matches q)),
  )
