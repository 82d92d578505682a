-- The naming rule: which columns of two tables an answer has, and how they are called, by names and types alone.
use Rattle.std.specs.Prelude.{Bool, true, false, ◌&&◌, not, if◌then◌else◌, List, ◌++◌, map, filter, Option, unwrap_or, codes}
use Rattle.std.specs.List.{list_any}
use Rattle.tb_value.specs.Promise.Kind.{Kind}
use Rattle.tb_value.specs.Promise.Names.{Name, same_name}
use Rattle.tb_frame.specs.declared.args.JoinArgs.{JoinArgs}
use Rattle.tb_frame.specs.declared.args.JoinType.{JoinType}
use Rattle.tb_frame.specs.declared.args.JoinType.TheVariants.{Inner, Left, Right, Full, Semi, Anti}
use Rattle.tb_frame.specs.declared.args.JoinCoalesce.{JoinCoalesce}
use Rattle.tb_frame.specs.declared.args.JoinCoalesce.TheVariants.{JoinSpecific, KeepColumns}

abbrev pub is_among : List Name → Name → Bool
is_among names n = list_any (same_name n) names

-- COALESCED KEYS

-- whether the two keys of a pair become one column
abbrev pub coalesce : JoinCoalesce → JoinType → Bool
coalesce KeepColumns how = false
coalesce c Semi = false
coalesce c Anti = false
coalesce JoinSpecific Full = false
coalesce c how = true

abbrev pub coalesces : JoinArgs → Bool
coalesces a = coalesce a.coalesce a.how

-- where they do, a Right join drops the left keys, an Inner or Left join drops the right ones, and a Full join merges the right ones into the left ones
abbrev pub drops_left_keys : JoinType → Bool → Bool
drops_left_keys Right c = c
drops_left_keys how c = false

abbrev pub drops_right_keys : JoinType → Bool → Bool
drops_right_keys Inner c = c
drops_right_keys Left c = c
drops_right_keys how c = false

abbrev pub coalesces_keys : JoinType → Bool → Bool
coalesces_keys Full c = c
coalesces_keys how c = false

-- WHICH COLUMNS

-- a Semi or Anti join has the left columns alone
abbrev pub has_right : JoinType → Bool
has_right Semi = false
has_right Anti = false
has_right how = true

-- whether a left column of this name is put into the answer, and a right one beside it
abbrev pub keeps_left : JoinArgs → List Name → Name → Bool
keeps_left a left_on n = not (drops_left_keys a.how (coalesces a) && is_among left_on n)

abbrev pub keeps_right : JoinArgs → List Name → Name → Bool
keeps_right a right_on n =
    has_right a.how && not (drops_right_keys a.how (coalesces a) && is_among right_on n)

-- and whether a right one stays there, since it is not coalesced with a left one
abbrev pub shows_right : JoinArgs → List Name → Name → Bool
shows_right a right_on n =
    keeps_right a right_on n && not (coalesces_keys a.how (coalesces a) && is_among right_on n)

-- THEIR NAMES

abbrev pub default_suffix : Name
default_suffix = codes "_right"

-- a name that is taken is followed by the suffix
abbrev pub right_name : List Name → Option Name → Name → Name
right_name taken suffix n = (if is_among taken n then n ++ unwrap_or suffix default_suffix else n)

-- the names of the kept left columns, among all names of the left table
abbrev pub left_names : JoinArgs → List Name → List Name → List Name
left_names a left_on left = filter (keeps_left a left_on) left

-- the names of the columns that are put side by side: those of the left, and those of the right, which avoid them
abbrev pub joined_names : JoinArgs → List Name → List Name → List Name → List Name → List Name
joined_names a left_on right_on left right = left_names a left_on left
    ++ map (right_name (left_names a left_on left) a.suffix) (filter (keeps_right a right_on) right)

-- a name and a type
abbrev pub Field : Type 0
Field = Name × Kind

-- the names and types of the answer's columns, by those of the tables
abbrev pub answer_fields : JoinArgs → List Name → List Name → List Field → List Field → List Field
answer_fields a left_on right_on left right =
    let taken : List Name = left_names a left_on (map (λ (f : Field). f.0) left) in
    filter (λ (f : Field). keeps_left a left_on f.0) left
    ++ map (λ (f : Field). (right_name taken a.suffix f.0, f.1))
    (filter (λ (f : Field). shows_right a right_on f.0) right)
