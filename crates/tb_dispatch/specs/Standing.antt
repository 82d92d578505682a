-- A joined table, whose right keys stand under names that avoid the left ones.
use Rattle.std.specs.Prelude.{◌≡◌, ◌||◌, ◌⊎◌, if◌then◌else◌, List, [], ◌++◌, map, length, Option, None, unwrap_or}
use Rattle.std.specs.List.{All, zip}
use Rattle.std.specs.Option.{ForSome}
use Rattle.tb_value.specs.Promise.Names.{Name, same_name}
use Rattle.tb_chunk.specs.Promise.Col.{Col}
use Rattle.tb_frame.specs.Promise.Frame.{selected_columns}
use Rattle.tb_frame.specs.Frame.{without_names}
use Rattle.tb_frame.specs.Promise.Naming.{default_suffix, is_among}
use Rattle.tb_frame.specs.Promise.Refusal.{first_unknown}
use Rattle.tb_frame.specs.Promise.Table.{height, names_of, table_of}
use Rattle.tb_keys.specs.Coalescing.{key_beside}
use Rattle.tb_join.specs.AnswerColumns.{coalesced_part}

abbrev pub suffix_or : Option Name → Name
suffix_or suffix = unwrap_or suffix default_suffix

-- tables of one height, or of which one has no column
abbrev pub AreLevel : List Col → List Col → Type 0
AreLevel left right =
    (height (table_of left) ≡ height (table_of right)) ⊎ ((left ≡ []) ⊎ (right ≡ []))

-- the name of a right key beside the left key at its place: the suffix follows it where they are the same, or a left column has it
abbrev pub stands_as : List Name → Name → Name × Name → Name
stands_as taken suffix p = (if same_name p.0 p.1 || is_among taken p.1 then p.1 ++ suffix else p.1)

-- the names of the right keys
abbrev pub names_standing : List Col → Name → List Name → List Name → List Name
names_standing df_left suffix keys_left keys_right =
    map (stands_as (names_of (table_of df_left)) suffix) (zip keys_left keys_right)

-- the columns but for these right keys, the left keys with the values of the right key at their place where they have none
abbrev pub coalesced_columns : List Name → List Name → List Col → List Col
coalesced_columns keys_left rights df =
    coalesced_part keys_left (selected_columns rights df) (without_names rights df)

-- there is a right key for each left one, all are columns, and two that are coalesced have one type
pub record AreCoalescable (keys_left rights : List Name) (df : List Col) : Type 0 where
  pub many : length keys_left ≡ length rights
  pub known : first_unknown (table_of df) rights ≡ None
  pub alike : All
      (λ (c : Col).
      ForSome (key_beside keys_left (selected_columns rights df) c.name) (λ k. c.kind ≡ k.kind))
      df
