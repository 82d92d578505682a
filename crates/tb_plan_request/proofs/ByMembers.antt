-- A tree by the members of its value.
use Rattle.std.proofs.Common.{◌≡◌, List, Bool, true, false, Option, Some, None, codes, if◌then◌else◌, refl, sym, ap, ◌∙◌}
use Rattle.std.specs.Option.{option_map, option_and_then}
use Rattle.serde_json.specs.Data.{Data, null, boolean, number, string, array, object, Members}
use Rattle.serde_json.specs.Find.{as_str, get}
use Rattle.tb_json.specs.Promise.Lists.{has_only}
use Rattle.tb_node.specs.Promise.Trees.{Tree, table}
use Rattle.tb_request.specs.Promise.Members.{Known, names_of}
use Rattle.tb_plan_request.specs.Promise.Members.{filter_members, join_node_members, table_node_members}
use Rattle.tb_plan_request.specs.Promise.Written.{filter_from, join_from, tree_in, tree_from, trees_in}
use Rattle.tb_plan_request.specs.Laws.{tree_by_members}
use Rattle.tb_plan_request.proofs.NodeMembers.{tree_at-get}

pub reads : (d : Data) → tree_in d ≡ tree_by_members d
reads null = refl
reads (boolean b) = refl
reads (number n) = refl
reads (string s) = refl
reads (array ds) = refl
reads (object ms) = rw (tree_at-get (codes "input") ms, tree_at-get (codes "left") ms, tree_at-get (codes "right") ms) refl

-- what a test of members says of the members that these are
pub has_these : (ks members : List Known) (d : Data) (tested is : Bool) → ks ≡ members → tested ≡ has_only (names_of ks) d → tested ≡ is → has_only (names_of members) d ≡ is
has_these ks members d tested is same by said = ap (λ known. has_only (names_of known) d) (sym same) ∙ sym by ∙ said

-- ---- a filter

abbrev is_table : Data → Bool
is_table d = has_only (names_of table_node_members) d

abbrev is_filter : Data → Bool
is_filter d = has_only (names_of filter_members) d

abbrev is_join : Data → Bool
is_join d = has_only (names_of join_node_members) d

filter_reads : (d : Data) → is_table d ≡ false → is_filter d ≡ true → tree_in d ≡ filter_from d (option_and_then tree_in (get (codes "input") d))
filter_reads d first second = reads d ∙ rw (first, second) refl

pub no_input : (d : Data) → is_table d ≡ false → is_filter d ≡ true → get (codes "input") d ≡ None → None ≡ tree_in d
no_input d first second none = sym (filter_reads d first second ∙ rw none refl)

pub some_input : (d e : Data) (t : Option Tree) → is_table d ≡ false → is_filter d ≡ true → get (codes "input") d ≡ Some e → t ≡ tree_in e → tree_in d ≡ filter_from d t
some_input d e t first second some is = filter_reads d first second ∙ ap (λ o. filter_from d (option_and_then tree_in o)) some ∙ ap (filter_from d) (sym is)

-- ---- a join

join_reads : (d : Data) → is_table d ≡ false → is_filter d ≡ false → is_join d ≡ true
    → tree_in d ≡ join_from d (option_and_then tree_in (get (codes "left") d)) (option_and_then tree_in (get (codes "right") d))
join_reads d first second third = reads d ∙ rw (first, second, third) refl

no_right_tree : (d : Data) (left : Option Tree) → join_from d left None ≡ None
no_right_tree d None = refl
no_right_tree d (Some t) = refl

pub no_left : (d : Data) → is_table d ≡ false → is_filter d ≡ false → is_join d ≡ true → get (codes "left") d ≡ None → None ≡ tree_in d
no_left d first second third none = sym (join_reads d first second third ∙ ap (λ o. join_from d (option_and_then tree_in o) (option_and_then tree_in (get (codes "right") d))) none)

pub no_right : (d : Data) → is_table d ≡ false → is_filter d ≡ false → is_join d ≡ true → get (codes "right") d ≡ None → None ≡ tree_in d
no_right d first second third none =
    sym (join_reads d first second third ∙ ap (λ o. join_from d (option_and_then tree_in (get (codes "left") d)) (option_and_then tree_in o)) none ∙ no_right_tree d _)

pub some_inputs : (d e f : Data) (t u : Option Tree) → is_table d ≡ false → is_filter d ≡ false → is_join d ≡ true → get (codes "left") d ≡ Some e → get (codes "right") d ≡ Some f
    → t ≡ tree_in e → u ≡ tree_in f → tree_in d ≡ join_from d t u
some_inputs d e f t u first second third left right is too =
    join_reads d first second third
    ∙ (λ i. join_from d (option_and_then tree_in (left i)) (option_and_then tree_in (right i)))
    ∙ (λ i. join_from d (sym is i) (sym too i))
