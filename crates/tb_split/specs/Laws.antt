-- The laws of tables in parts.
use Rattle.std.specs.Prelude.{◌≡◌, ℕ, ◌≤◌, List}
use Rattle.tb_value.specs.Promise.Names.{Name}
use Rattle.tb_frame.specs.declared.args.JoinArgs.{JoinArgs}
use Rattle.tb_frame.specs.Promise.Join.{Request, by_names}
use Rattle.tb_frame.specs.Promise.Refusal.{join_valid}
use Rattle.tb_frame.specs.Promise.Table.{Table}
use Rattle.tb_parts.specs.Promise.Parts.{IsParted, part_request}
use Rattle.tb_split.specs.Promise.Split.{key_part, kinds_of, split_table}

-- where a join by names is not refused, two tables that are parted by its keys meet part by part: the law of joins in parts holds of the requests of their parts
abbrev pub SplitMeets : Type 0
SplitMeets = (l r : Table) (left_on right_on : List Name) (args : JoinArgs) (n : ℕ) → 1 ≤ n
    → let q : Request = by_names l r left_on right_on args in join_valid q
    → IsParted (key_part (kinds_of q.left_keys) n) n q
    × ((p : ℕ) → part_request (key_part (kinds_of q.left_keys) n) q p
    ≡ by_names (split_table l left_on n p) (split_table r right_on n p) left_on right_on args)
