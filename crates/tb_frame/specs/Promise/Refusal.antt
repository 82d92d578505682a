-- Which requests are refused, and why.
use Rattle.std.specs.Prelude.{◌≡◌, ℕ, ◌==◌, nat_lt, Bool, true, false, ◌&&◌, ◌||◌, not, List, [], ◌∷◌, ◌++◌, length, map, Option, None, slice_index_or, take}
use Rattle.std.specs.Option.{option_map}
use Rattle.std.specs.List.{list_any, list_all, find}
use Rattle.tb_value.specs.Promise.Datum.{is_present}
use Rattle.tb_value.specs.Promise.Kind.{Kind}
use Rattle.tb_value.specs.Promise.Kind as kind
use Rattle.tb_value.specs.Promise.Names.{Name}
use Rattle.tb_value.specs.Promise.Pairs.{row_numbers}
use Rattle.tb_value.specs.Promise.Refusals.{first_cause, when}
use Rattle.tb_value.specs.Promise.Same.{same}
use Rattle.tb_value.specs.Promise.SameKind.{same_kind, is_key}
use Rattle.tb_value.specs.declared.error.Side.TheVariants as side
use Rattle.tb_value.specs.declared.limits.TheConstants.{MAX_ROWS}
use Rattle.tb_value.specs.declared.error.InvalidCause.TheVariants.{NoKeys, KeyCounts, NullFlags, KeyKind}
use Rattle.tb_value.specs.declared.error.ComputeCause.TheVariants.{KeyTypes, Validation, TooManyRows}
use Rattle.tb_value.specs.declared.error.PolarsError.{PolarsError}
use Rattle.tb_value.specs.declared.error.PolarsError.TheVariants.{ColumnNotFound, InvalidOperation, ComputeError, Duplicate}
use Rattle.tb_frame.specs.declared.args.JoinType.{JoinType}
use Rattle.tb_frame.specs.declared.args.JoinType.TheVariants.{Semi, Anti}
use Rattle.tb_frame.specs.declared.null_flags.JoinNulls.{JoinNulls}
use Rattle.tb_frame.specs.declared.null_flags.JoinNulls.TheVariants.{All, Each}
use Rattle.tb_frame.specs.declared.args.JoinValidation.{JoinValidation}
use Rattle.tb_frame.specs.declared.args.JoinValidation.TheVariants.{ManyToMany, ManyToOne, OneToMany, OneToOne}
use Rattle.tb_frame.specs.Promise.Table.{TableColumn, Table, height, names_of}
use Rattle.tb_frame.specs.Promise.Join.{Request, field, nulls_match, places, listing}
use Rattle.tb_frame.specs.Promise.Naming.{is_among, joined_names}

-- NAMES

-- the first name that is no column of the table
abbrev pub first_unknown : Table → List Name → Option Name
first_unknown t names = find (λ n. not (is_among (names_of t) n)) names

abbrev pub name_at : List Name → ℕ → Name
name_at names k = slice_index_or names k []

-- whether the name at a place is among those before it
abbrev pub repeats : List Name → ℕ → Bool
repeats names k = is_among (take k names) (name_at names k)

-- the first name that is
abbrev pub first_repeated : List Name → Option Name
first_repeated names =
    option_map (name_at names) (find (repeats names) (row_numbers (length names)))

-- TWINS

-- a row is counted where each key field is present, or Nulls match at its place
abbrev pub is_counted : (ℕ → Bool) → List TableColumn → ℕ → Bool
is_counted nulls_match keys i =
    list_all (λ p. is_present (field keys p i) || nulls_match p) (row_numbers (length keys))

-- two rows have the same key fields, Null the same as Null
abbrev pub same_keys : List TableColumn → ℕ → ℕ → Bool
same_keys keys i j =
    list_all (λ p. same (field keys p i) (field keys p j)) (row_numbers (length keys))

-- two rows, the first before the second, are counted and have the same key fields
abbrev pub are_twins : (ℕ → Bool) → List TableColumn → ℕ → ℕ → Bool
are_twins nulls_match keys i j = nat_lt i j && is_counted nulls_match keys i
    && is_counted nulls_match keys j && same_keys keys i j

-- two of n rows are twins
abbrev pub has_twins : (ℕ → Bool) → List TableColumn → ℕ → Bool
has_twins nulls_match keys n =
    list_any (λ i. list_any (are_twins nulls_match keys i) (row_numbers n)) (row_numbers n)

-- WHAT VALIDATION ASKS

abbrev pub asks_left : JoinValidation → Bool
asks_left ManyToMany = false
asks_left ManyToOne = false
asks_left OneToMany = true
asks_left OneToOne = true

abbrev pub asks_right : JoinValidation → Bool
asks_right ManyToMany = false
asks_right ManyToOne = true
asks_right OneToMany = false
asks_right OneToOne = true

-- a side is asked to have no twins
abbrev pub asks_a_side : JoinValidation → Bool
asks_a_side v = asks_left v || asks_right v

-- Semi and Anti look at no validation
abbrev pub is_validated : JoinType → Bool
is_validated Semi = false
is_validated Anti = false
is_validated how = true

-- THE CAUSES, each by itself

abbrev pub unknown_key : Table → List Name → Option PolarsError
unknown_key t names = option_map (λ n. ColumnNotFound n) (first_unknown t names)

abbrev pub no_keys : List Name → List Name → Option PolarsError
no_keys left_on right_on =
    when (length left_on == 0 || length right_on == 0) (InvalidOperation NoKeys)

abbrev pub key_counts : List Name → List Name → Option PolarsError
key_counts left_on right_on = when (not (length left_on == length right_on))
    (InvalidOperation (KeyCounts (length left_on) (length right_on)))

-- a flag for each of so many keys is asked for, and there are more or fewer
abbrev pub null_flags : JoinNulls → ℕ → Option PolarsError
null_flags (All b) keys = None
null_flags (Each flags) keys =
    when (not (length flags == keys)) (InvalidOperation (NullFlags (length flags) keys))

abbrev pub repeated_among : List Name → Option PolarsError
repeated_among names = option_map (λ n. Duplicate n) (first_repeated names)

abbrev pub kind_at : List TableColumn → ℕ → Kind
kind_at keys p = slice_index_or (map (λ (c : TableColumn). c.kind) keys) p kind.null

abbrev pub key_types : Request → Option PolarsError
key_types q = option_map (λ p. ComputeError (KeyTypes p))
    (find (λ p. not (same_kind (kind_at q.left_keys p) (kind_at q.right_keys p))) (places q))

abbrev pub key_kind : Request → Option PolarsError
key_kind q = option_map (λ p. InvalidOperation (KeyKind p))
    (find (λ p. not (is_key (kind_at q.left_keys p))) (places q))

abbrev pub repeated_name : Request → Option PolarsError
repeated_name q =
    repeated_among (joined_names q.args q.left_on q.right_on (names_of q.left) (names_of q.right))

abbrev pub broken_left : Request → Option PolarsError
broken_left q = when
    (is_validated q.args.how && asks_left q.args.validation
    && has_twins (nulls_match q) q.left_keys (height q.left))
    (ComputeError (Validation side.Left))

abbrev pub broken_right : Request → Option PolarsError
broken_right q = when
    (is_validated q.args.how && asks_right q.args.validation
    && has_twins (nulls_match q) q.right_keys (height q.right))
    (ComputeError (Validation side.Right))

abbrev pub too_many_rows : Request → Option PolarsError
too_many_rows q = when (nat_lt MAX_ROWS (length (listing q))) (ComputeError TooManyRows)

-- THE CAUSES IN THEIR ORDER, in groups between which further causes have their place

-- a name of a key is no column of its table
abbrev pub name_causes : Table → Table → List Name → List Name → List (Option PolarsError)
name_causes left right left_on right_on = unknown_key left left_on ∷ unknown_key right right_on ∷ []

-- a side has no keys, the sides have different numbers of keys, or the flags have another
abbrev pub count_causes : JoinNulls → List Name → List Name → List (Option PolarsError)
count_causes nulls_match left_on right_on = no_keys left_on right_on ∷ key_counts left_on right_on
    ∷ null_flags nulls_match (length left_on) ∷ []

-- a key is repeated
abbrev pub repeat_causes : List Name → List Name → List (Option PolarsError)
repeat_causes left_on right_on = repeated_among left_on ∷ repeated_among right_on ∷ []

abbrev pub list_causes : JoinNulls → List Name → List Name → List (Option PolarsError)
list_causes nulls_match left_on right_on =
    count_causes nulls_match left_on right_on ++ repeat_causes left_on right_on

-- the types of two keys differ, or have no keys, or a name of the answer is repeated
abbrev pub column_causes : Request → List (Option PolarsError)
column_causes q = key_types q ∷ key_kind q ∷ repeated_name q ∷ []

-- a side has twins and may not, or there are too many pairs
abbrev pub row_causes : Request → List (Option PolarsError)
row_causes q = broken_left q ∷ broken_right q ∷ too_many_rows q ∷ []

abbrev pub key_causes : Request → List (Option PolarsError)
key_causes q = name_causes q.left q.right q.left_on q.right_on
    ++ list_causes q.args.join_nulls q.left_on q.right_on

abbrev pub join_causes : Request → List (Option PolarsError)
join_causes q = key_causes q ++ column_causes q ++ row_causes q

-- the first of them that holds
abbrev pub join_refusal : Request → Option PolarsError
join_refusal q = first_cause (join_causes q)

abbrev pub join_valid : Request → Type 0
join_valid q = join_refusal q ≡ None
