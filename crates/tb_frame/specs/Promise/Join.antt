-- A join request and its answers.
use Rattle.std.specs.Prelude.{◌≡◌, ℕ, min, ℤ, pos, ◌+ℤ◌, int_lt, int_le, Bool, false, ◌&&◌, if◌then◌else◌, Option, Some, None, ⊤}
use Rattle.std.specs.Prelude.{List, [], ◌++◌, length, map, filter, position, slice_get, slice_index_or, IsSorted, IsPermutation}
use Rattle.std.specs.List.{list_all, filter_map, find, enumerate_from}
use Rattle.std.specs.Option.{option_and_then}
use Rattle.tb_value.specs.Promise.Datum.{Datum, null}
use Rattle.tb_value.specs.Promise.Kind.{Kind}
use Rattle.tb_value.specs.Promise.Names.{Name, same_name}
use Rattle.tb_value.specs.Promise.Pairs.{row_numbers, matched_pairs, left_met, left_unmet, right_unmet, left_first, right_first}
use Rattle.tb_value.specs.Promise.Same.{agrees}
use Rattle.tb_value.specs.declared.index.JoinPair.{JoinPair}
use Rattle.tb_chunk.specs.Promise.Coalesced.{or_else}
use Rattle.tb_frame.specs.declared.args.JoinArgs.{JoinArgs}
use Rattle.tb_frame.specs.declared.args.JoinType.{JoinType}
use Rattle.tb_frame.specs.declared.args.JoinType.TheVariants.{Inner, Left, Right, Full, Semi, Anti}
use Rattle.tb_frame.specs.declared.args.MaintainOrderJoin.{MaintainOrderJoin}
use Rattle.tb_frame.specs.declared.args.MaintainOrderJoin.TheVariants as order
use Rattle.tb_frame.specs.declared.null_flags.JoinNulls.{JoinNulls}
use Rattle.tb_frame.specs.declared.null_flags.JoinNulls.TheVariants as join_nulls
use Rattle.tb_frame.specs.declared.args.Direction.{Direction}
use Rattle.tb_frame.specs.declared.args.Direction.TheVariants.{Free, ByLeft, ByRight}
use Rattle.tb_frame.specs.Promise.Naming.{answer_fields, coalesces, keeps_left, coalesces_keys, right_name, shows_right}
use Rattle.tb_frame.specs.Promise.Table.{TableColumn, Table, IsTable, height, names_of, rows_of, schema_of}

-- a request: two tables, the names and the columns of the keys, and the args
pub record Request : Type 0 where
  pub left : Table
  pub right : Table
  pub left_on : List Name
  pub right_on : List Name
  pub left_keys : List TableColumn
  pub right_keys : List TableColumn
  pub args : JoinArgs

-- the column of that name
abbrev pub column_named : Table → Name → Option TableColumn
column_named t n = find (λ (c : TableColumn). same_name c.name n) t

-- the columns of these names, in the order of the names
abbrev pub columns_named : Table → List Name → List TableColumn
columns_named t names = filter_map (column_named t) names

-- the request of `join`, whose keys are the tables' columns of these names
abbrev pub by_names : Table → Table → List Name → List Name → JoinArgs → Request
by_names left right left_on right_on args = record {
  left = left;
  right = right;
  left_on = left_on;
  right_on = right_on;
  left_keys = columns_named left left_on;
  right_keys = columns_named right right_on;
  args = args;
}

-- MATCHES

-- the field of row i in the key at place p
abbrev pub field : List TableColumn → ℕ → ℕ → Datum
field keys p i =
    slice_index_or (slice_index_or (map (λ (c : TableColumn). c.values) keys) p []) i null

-- the flag at place p; beyond the flags it is false
abbrev pub flag_at : JoinNulls → ℕ → Bool
flag_at (join_nulls.All b) p = b
flag_at (join_nulls.Each flags) p = slice_index_or flags p false

-- whether Nulls match at place p
abbrev pub nulls_match : Request → ℕ → Bool
nulls_match q p = flag_at q.args.join_nulls p

-- the places that both key lists have
abbrev pub places : Request → List ℕ
places q = row_numbers (min (length q.left_keys) (length q.right_keys))

-- rows i and j match where the fields agree at every place
abbrev pub matches : Request → ℕ → ℕ → Bool
matches q i j = list_all
    (λ p. agrees (nulls_match q p) (field q.left_keys p i) (field q.right_keys p j)) (places q)

-- THE LISTING

abbrev pub listing_of : JoinType → ℕ → ℕ → (ℕ → ℕ → Bool) → List JoinPair
listing_of Inner l r m = matched_pairs l r m
listing_of Left l r m = matched_pairs l r m ++ left_unmet l r m
listing_of Right l r m = matched_pairs l r m ++ right_unmet l r m
listing_of Full l r m = matched_pairs l r m ++ left_unmet l r m ++ right_unmet l r m
listing_of Semi l r m = left_met l r m
listing_of Anti l r m = left_unmet l r m

abbrev pub listing : Request → List JoinPair
listing q = listing_of q.args.how (height q.left) (height q.right) (matches q)

-- THE ORDER

-- the columns None, Left and LeftRight, Right and RightLeft of a row of the table
abbrev pub table_row : Direction → Direction → Direction → MaintainOrderJoin → Direction
table_row n l r order.None = n
table_row n l r order.Left = l
table_row n l r order.LeftRight = l
table_row n l r order.Right = r
table_row n l r order.RightLeft = r

abbrev pub direction : JoinType → MaintainOrderJoin → Direction
direction Left o = table_row ByLeft ByLeft ByRight o
direction Right o = table_row ByRight ByLeft ByRight o
direction Inner o = table_row Free ByLeft ByRight o
direction Full o = table_row Free ByLeft ByRight o
direction Semi o = table_row ByLeft ByLeft ByLeft o
direction Anti o = table_row ByLeft ByLeft ByLeft o

abbrev pub Ascends : Direction → List JoinPair → Type 0
Ascends Free ps = ⊤
Ascends ByLeft ps = IsSorted left_first ps
Ascends ByRight ps = IsSorted right_first ps

-- ps is a permutation of the list, and ascends in the way that the table names
pub record IsOrdered (how : JoinType) (o : MaintainOrderJoin)
    (ps list : List JoinPair) : Type 0 where
  pub permutation : IsPermutation list ps
  pub ascends : Ascends (direction how o) ps

-- THE SLICE

-- whether place p of n is kept: s <= p < s + len, where s is the offset, or offset + n where it is negative
abbrev pub in_slice : ℕ → ℤ → ℕ → ℕ → Bool
in_slice n offset len p = let s : ℤ = (if int_lt offset (pos 0) then offset +ℤ pos n else offset) in
    int_le s (pos p) && int_lt (pos p) (s +ℤ pos len)

abbrev pub slice : {X : Type 0} → List X → ℤ → ℕ → List X
slice {X} ps offset len = map (λ (x : ℕ × X). x.1)
    (filter (λ (x : ℕ × X). in_slice (length ps) offset len x.0) (enumerate_from 0 ps))

-- without a slice it is ps
abbrev pub cut : {X : Type 0} → Option (ℤ × ℕ) → List X → List X
cut None ps = ps
cut (Some s) ps = slice ps s.0 s.1

-- COLUMNS AND ROWS

-- a column of the answer: its name, its type, and the field that it has for a pair
pub record Out : Type 0 where
  pub name : Name
  pub kind : Kind
  pub at : JoinPair → Datum

-- a column's field in a row, Null where there is no row
abbrev pub value_at : TableColumn → Option ℕ → Datum
value_at c None = null
value_at c (Some i) = slice_index_or c.values i null

-- the columns of a table whose names pass a test
abbrev pub columns_where : (Name → Bool) → Table → Table
columns_where test t = filter (λ (c : TableColumn). test c.name) t

abbrev pub kept_left_columns : Request → Table
kept_left_columns q = columns_where (keeps_left q.args q.left_on) q.left

abbrev pub shown_right_columns : Request → Table
shown_right_columns q = columns_where (shows_right q.args q.right_on) q.right

-- the column of the right table that the right key at place p names, if there is one
abbrev pub right_key : Request → ℕ → Option TableColumn
right_key q p = option_and_then (column_named q.right) (slice_get q.right_on p)

-- the column of the right table that is coalesced with a left one of this name: where keys are coalesced, that of the right key beside the left key
abbrev pub partner : Request → Name → Option TableColumn
partner q n = (if coalesces_keys q.args.how (coalesces q.args)
    then option_and_then (right_key q) (position (same_name n) q.left_on)
    else None)

-- a left column's field, and the partner's where it is Null
abbrev pub left_field : Option TableColumn → TableColumn → JoinPair → Datum
left_field None c pair = value_at c pair.left
left_field (Some k) c pair = or_else (value_at c pair.left) (value_at k pair.right)

abbrev pub left_out : Request → TableColumn → Out
left_out q c = record { name = c.name; kind = c.kind; at = left_field (partner q c.name) c }

-- a right column, beside left ones of these names
abbrev pub right_out : List Name → Option Name → TableColumn → Out
right_out taken suffix c = record
    { name = right_name taken suffix c.name; kind = c.kind; at = λ pair. value_at c pair.right }

-- the columns of the answer
abbrev pub out : Request → List Out
out q = map (left_out q) (kept_left_columns q)
    ++ map (right_out (names_of (kept_left_columns q)) q.args.suffix) (shown_right_columns q)

abbrev pub out_row : Request → JoinPair → List Datum
out_row q pair = map (λ (o : Out). o.at pair) (out q)

-- their names and types
abbrev pub out_columns : Request → List (Name × Kind)
out_columns q = answer_fields q.args q.left_on q.right_on (schema_of q.left) (schema_of q.right)

-- THE ANSWER

-- a table of the answer's columns, whose rows are those of the listed pairs, in an order that is allowed and cut by the slice
pub record IsAnswer (q : Request) (t : Table) : Type 0 where
  pub table : IsTable t
  pub columns : schema_of t ≡ out_columns q
  pub pairs : List JoinPair
  pub ordered : IsOrdered q.args.how q.args.maintain_order pairs (listing q)
  pub rows : rows_of t ≡ map (out_row q) (cut q.args.slice pairs)
