-- The columns of an answer, as they are gathered over its pairs.
use Rattle.std.specs.Prelude.{◌≡◌, List, ◌++◌, length, map, filter, Option, None, Some, unwrap_or}
use Rattle.tb_value.specs.Promise.Names.{Name}
use Rattle.tb_value.specs.declared.index.JoinPair.{JoinPair}
use Rattle.tb_chunk.specs.Promise.Col.{Col, values}
use Rattle.tb_frame.specs.declared.args.JoinArgs.{JoinArgs}
use Rattle.tb_frame.specs.Frame.{coalesced_column, without_names}
use Rattle.tb_frame.specs.Promise.Naming.{default_suffix, is_among, right_name}
use Rattle.tb_frame.specs.RightColumns.{gone_left, gone_right, right_side}
use Rattle.tb_frame.specs.Promise.Table.{names_of, table_of}
use Rattle.tb_gather.specs.Gathered.{gathered_rows}
use Rattle.tb_keys.specs.Coalescing.{key_beside}
use Rattle.tb_join.specs.RowOrder.{left_order_asked, right_order_asked}

abbrev pub suffix_in : JoinArgs → Name
suffix_in a = unwrap_or a.suffix default_suffix

-- a column under its name beside columns of the names that are taken
abbrev pub column_called : List Name → Name → Col → Col
column_called taken suffix c = record c { name = right_name taken (Some suffix) c.name }

-- the columns whose names are among these
abbrev pub with_names : List Name → List Col → List Col
with_names names cs = filter (λ (c : Col). is_among names c.name) cs

-- the left columns over the pairs, which keep their flags where the left rows ascend
abbrev pub left_part : JoinArgs → List Name → List JoinPair → List Col → List Col
left_part a left_on ps cs = map
    (gathered_rows (map (λ (p : JoinPair). p.left) ps) (left_order_asked a))
    (without_names (gone_left a left_on) cs)

-- the right columns over the pairs
abbrev pub right_part : JoinArgs → List Name → List JoinPair → List Col → List Col
right_part a right_on ps cs = map
    (gathered_rows (map (λ (p : JoinPair). p.right) ps) (right_order_asked a))
    (without_names (gone_right a right_on) (right_side a.how cs))

-- columns, and others beside them
abbrev pub side_by_side : Name → List Col → List Col → List Col
side_by_side suffix left right = left ++ map (column_called (names_of (table_of left)) suffix) right

-- both sides' columns over the pairs
abbrev pub answer_columns : JoinArgs → List Name → List Name → List JoinPair → List Col → List Col
    → List Col
answer_columns a left_on right_on ps left right =
    side_by_side (suffix_in a) (left_part a left_on ps left) (right_part a right_on ps right)

-- a column, with the values of another where it has none
abbrev pub filled_column : Option Col → Col → Col
filled_column None c = c
filled_column (Some k) c = coalesced_column c k

-- both have one type and one length
abbrev pub Fits : Col → Col → Type 0
Fits c k = (c.kind ≡ k.kind) × (length (values c) ≡ length (values k))

-- left columns, those of the names on the left with the values of the key at the same place where they have none
abbrev pub coalesced_part : List Name → List Col → List Col → List Col
coalesced_part left_on keys cs =
    map (λ (c : Col). filled_column (key_beside left_on keys c.name) c) cs
