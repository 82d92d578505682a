-- Small requests, and the tables that answer them.
use Rattle.std.specs.Prelude.{ℕ, Bool, List, [], ◌∷◌, Option, ℤ, pos, codes}
use Rattle.tb_value.specs.Promise.Datum.{Datum, null, int, string}
use Rattle.tb_value.specs.Promise.Kind.{Kind, int32, int64}
use Rattle.tb_value.specs.Promise.Kind as kind
use Rattle.tb_value.specs.Promise.Names.{Name}
use Rattle.tb_frame.specs.declared.args.JoinArgs.{JoinArgs}
use Rattle.tb_frame.specs.declared.args.JoinType.{JoinType}
use Rattle.tb_frame.specs.declared.args.JoinType.TheVariants.{Inner, Left, Right, Full}
use Rattle.tb_frame.specs.declared.args.JoinValidation.{JoinValidation}
use Rattle.tb_frame.specs.declared.args.JoinValidation.TheVariants.{OneToMany}
use Rattle.tb_frame.specs.declared.args.JoinCoalesce.{JoinCoalesce}
use Rattle.tb_frame.specs.declared.args.MaintainOrderJoin.TheVariants as order
use Rattle.tb_frame.specs.declared.null_flags.JoinNulls.TheVariants.{All, Each}
use Rattle.tb_frame.specs.Promise.Table.{TableColumn, Table}
use Rattle.tb_frame.specs.Promise.Join.{Request, by_names}
use Rattle.tb_join.specs.Promise.Asked.{plain_args}

abbrev pub k_name : Name
k_name = codes "k"

abbrev pub k_right_name : Name
k_right_name = codes "k_right"

-- a column of 64 bit numbers, and a table of such a column called `k`
abbrev pub numbers : Name → List Datum → TableColumn
numbers n vs = record { name = n; kind = int64; values = vs }

abbrev pub keys : List Datum → Table
keys vs = numbers k_name vs ∷ []

abbrev pub number : ℕ → Datum
number n = int (pos n)

-- two tables of one key `k` each
abbrev pub on_k : List Datum → List Datum → JoinArgs → Request
on_k left right args = by_names (keys left) (keys right) (k_name ∷ []) (k_name ∷ []) args

-- Inner, [1, Null, 2] and [Null, 1, 1]
abbrev pub null_keys : Bool → Request
null_keys nulls = on_k (number 1 ∷ null ∷ number 2 ∷ []) (null ∷ number 1 ∷ number 1 ∷ [])
    (record (plain_args Inner) { join_nulls = All nulls; maintain_order = order.LeftRight })

-- Full in the order of the right table, [1, 3] and [2, 1]
abbrev pub full_right_left : JoinCoalesce → Request
full_right_left c = on_k (number 1 ∷ number 3 ∷ []) (number 2 ∷ number 1 ∷ [])
    (record (plain_args Full) { coalesce = c; maintain_order = order.RightLeft })

-- Inner in the order of the left table, [1, 2, 3] on both sides, cut
abbrev pub cut_thrice : Option (ℤ × ℕ) → Request
cut_thrice s = on_k (number 1 ∷ number 2 ∷ number 3 ∷ []) (number 1 ∷ number 2 ∷ number 3 ∷ [])
    (record (plain_args Inner) { slice = s; maintain_order = order.LeftRight })

-- Left in the order of the right table, [7, 5, 6] and [6, 5]
abbrev pub left_by_right : Request
left_by_right = on_k (number 7 ∷ number 5 ∷ number 6 ∷ []) (number 6 ∷ number 5 ∷ [])
    (record (plain_args Left) { maintain_order = order.Right })

-- Right on two keys of different names
abbrev pub two_keys : Request
two_keys =
    by_names
    (numbers (codes "a") (number 1 ∷ []) ∷ numbers (codes "b") (number 2 ∷ []) ∷ numbers (codes "v") (number 9 ∷ []) ∷ [])
    (numbers (codes "c") (number 1 ∷ number 5 ∷ []) ∷ numbers (codes "d") (number 2 ∷ number 5 ∷ []) ∷ numbers (codes "w") (number 7 ∷ number 8 ∷ []) ∷ [])
    (codes "a" ∷ codes "b" ∷ []) (codes "c" ∷ codes "d" ∷ []) (plain_args Right)

abbrev pub two_keys_joined : Table
two_keys_joined =
    numbers (codes "v") (number 9 ∷ null ∷ [])
    ∷ numbers (codes "c") (number 1 ∷ number 5 ∷ [])
    ∷ numbers (codes "d") (number 2 ∷ number 5 ∷ [])
    ∷ numbers (codes "w") (number 7 ∷ number 8 ∷ [])
    ∷ []

-- two text keys, where the texts of a row are alike only when joined
abbrev pub texts : Name → List ℕ → TableColumn
texts n v = record { name = n; kind = kind.string; values = string v ∷ [] }

abbrev pub split_texts : JoinType → Request
split_texts how =
    let left : Table = texts (codes "a") (codes "ab") ∷ texts (codes "b") (codes "c") ∷ [] in
    let right : Table = texts (codes "a") (codes "a") ∷ texts (codes "b") (codes "bc") ∷ [] in
    by_names left right (codes "a" ∷ codes "b" ∷ []) (codes "a" ∷ codes "b" ∷ []) (plain_args how)

-- [3, 1, 3, Null] and [3, 3]
abbrev pub repeated_keys : JoinType → Request
repeated_keys how =
    on_k (number 3 ∷ number 1 ∷ number 3 ∷ null ∷ []) (number 3 ∷ number 3 ∷ []) (plain_args how)

-- Right with keys that are to be single on some side
abbrev pub validated : List Datum → JoinValidation → Bool → Request
validated left v nulls =
    on_k left (number 1 ∷ []) (record (plain_args Right) { validation = v; join_nulls = All nulls })

-- two tables with two keys each, called `a` and `b`
abbrev pub on_a_b : List Datum → List Datum → List Datum → List Datum → JoinArgs → Request
on_a_b left_a left_b right_a right_b args =
    let names : List Name = codes "a" ∷ codes "b" ∷ [] in
    let table : List Datum → List Datum → Table = λ a b. numbers (codes "a") a ∷ numbers (codes "b") b ∷ [] in
    by_names (table left_a left_b) (table right_a right_b) names names args

-- Inner in the order of the left table, (Null, 1) and (1, Null) on both sides
abbrev pub absent_by_turns : List Bool → Request
absent_by_turns flags =
    on_a_b (null ∷ number 1 ∷ []) (number 1 ∷ null ∷ []) (null ∷ number 1 ∷ [])
    (number 1 ∷ null ∷ [])
    (record (plain_args Inner) { join_nulls = Each flags; maintain_order = order.LeftRight })

-- Left with left keys that are to be single, (Null, 1) twice
abbrev pub absent_twice : List Bool → Request
absent_twice flags =
    on_a_b (null ∷ null ∷ []) (number 1 ∷ number 1 ∷ []) (number 1 ∷ []) (number 1 ∷ [])
    (record (plain_args Left) { validation = OneToMany; join_nulls = Each flags })

-- Inner of one table with itself, by names of keys, with a flag for each of so many
abbrev pub by_flagged_keys : List Bool → List Name → List Name → Request
by_flagged_keys flags left_on right_on =
    by_names (keys (number 1 ∷ [])) (keys (number 1 ∷ [])) left_on right_on
    (record (plain_args Inner) { join_nulls = Each flags })

-- Inner of one table with itself, by names of keys
abbrev pub by_keys : List Name → List Name → Request
by_keys left_on right_on =
    by_names (keys (number 1 ∷ [])) (keys (number 1 ∷ [])) left_on right_on (plain_args Inner)

-- Inner of two columns `k` of these types
abbrev pub of_kinds : Kind → Kind → Request
of_kinds t u = by_names (record { name = k_name; kind = t; values = [] } ∷ [])
    (record { name = k_name; kind = u; values = [] } ∷ []) (k_name ∷ [])
    (k_name ∷ []) (plain_args Inner)

-- Inner where the right `x` would be called as a left column is
abbrev pub taken_name : Request
taken_name =
    let left : Table = numbers k_name [] ∷ numbers (codes "x") [] ∷ numbers (codes "x_right") [] ∷ [] in
    by_names left (numbers k_name [] ∷ numbers (codes "x") [] ∷ []) (k_name ∷ []) (k_name ∷ []) (plain_args Inner)
