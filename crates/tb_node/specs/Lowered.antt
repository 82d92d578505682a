-- How far down a filter may stand, by the numbers of columns of the left inputs on the way.
use Rattle.std.specs.Prelude.{◌≡◌, ℕ, ◌+◌, ◌-◌, ◌==◌, Bool, ◌&&◌, List, [], ◌∷◌, length, nat_le, if◌then◌else◌, Option, Some, None, is_some}
use Rattle.std.specs.List.{position_or_len}
use Rattle.std.specs.Option.{option_map}
use Rattle.tb_value.specs.Promise.Names.{Name, same_name}
use Rattle.tb_filter.specs.Promise.Filtered.{Check}
use Rattle.tb_node.specs.declared.pushing.PushedTree as rust
use Rattle.tb_node.specs.Promise.Tables.{Tables}
use Rattle.tb_node.specs.Promise.Pushed.{is_of_left, is_plain_left, names_beside, names_under}
use Rattle.tb_node.specs.Promise.Trees.{Tree, table, join}
use Rattle.tb_node.specs.Promise.Trees as tree
use Rattle.tb_node.specs.Seen.{tree_of}

-- how many joins a filter on a column passes
abbrev pub passed : Tables → Name → Tree → ℕ
passed ts c (table n) = 0
passed ts c (tree.filter i d k) = 0
passed ts c (join l r lo ro a) = (if is_plain_left a && is_of_left (names_under ts l) (names_under ts r) c
    then passed ts c l + 1
    else 0)

-- a filter below so many joins of left inputs
abbrev pub lowered : ℕ → Name → Check → Tree → Tree
lowered j c k (table n) = tree.filter (table n) c k
lowered j c k (tree.filter i d q) = tree.filter (tree.filter i d q) c k
lowered j c k (join l r lo ro a) =
    (if j == 0 then tree.filter (join l r lo ro a) c k else join (lowered (j - 1) c k l) r lo ro a)

-- how many names there are, where they are there
abbrev pub width_of : Option (List Name) → ℕ
width_of None = 0
width_of (Some ns) = length ns

-- the number of names of a left input, put before those below it, where filters may pass its join: one that is plain and has names
abbrev pub width_over : Bool → Option (List Name) → Option (List Name) → List ℕ → List ℕ
width_over plain names left ws = (if plain && is_some names then width_of left ∷ ws else [])

-- of the Left joins at the top of a tree that filters may pass, from the topmost on, how many names their left inputs have
abbrev pub widths : Tables → Tree → List ℕ
widths ts (table n) = []
widths ts (tree.filter i d k) = []
widths ts (join l r lo ro a) = width_over (is_plain_left a)
    (names_beside a lo ro (names_under ts l) (names_under ts r)) (names_under ts l) (widths ts l)

-- how many of them have a column of this name; a name that no column has stands behind them all
abbrev pub joins_over : Option (List Name) → Name → List ℕ → ℕ
joins_over None c ws = 0
joins_over (Some ns) c ws = position_or_len (λ w. nat_le w (position_or_len (same_name c) ns)) ws

-- what is kept of a tree beside it: its names, and the widths of the joins at its top
pub record IsPushed (ts : Tables) (n : Tree) (p : rust.PushedTree) : Type 0 where
  pub node : tree_of p.node ≡ n
  pub names : option_map (λ v. v.items) p.names ≡ names_under ts n
  pub widths_are : p.widths.items ≡ widths ts n
