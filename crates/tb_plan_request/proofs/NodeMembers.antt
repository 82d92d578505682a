-- The members of a node: the trees that their values are, and how deep these nest.
use Rattle.std.proofs.Common.{◌≡◌, ℕ, suc, ◌<◌, ◌≤◌, max, List, [], ◌∷◌, Option, Some, None, Ordering, Less, Equal, Greater, is_eq, cond, nat_cmp, refl, sym, ap, ◌∙◌, arith}
use Rattle.std.specs.Cmp.Lexicographic.{slice_cmp}
use Rattle.std.specs.List.{find}
use Rattle.std.specs.Option.{option_map, option_and_then}
use Rattle.std.specs.Ordering.{match_ordering}
use Rattle.std.specs.Str.{bytes_eq}
use Rattle.std.proofs.lemmas.Map.Text.{is_eq-slice_cmp}
use Rattle.serde_json.specs.Data.{Data, null, boolean, number, string, array, object, Members, no_members, member, depth, members_depth}
use Rattle.serde_json.specs.Find.{get, get_member}
use Rattle.tb_value.specs.Promise.Names.{Name}
use Rattle.tb_node.specs.Promise.Trees.{Tree}
use Rattle.tb_plan_request.specs.Promise.Written.{tree_at, tree_in, trees_in}

abbrev pub Named : Type 0
Named = Name × Option Tree

found_or : (o : Ordering) (l : Name) (d : Data) (rest : Option Named) (others : Option Data) → option_and_then (λ (t : Named). t.1) rest ≡ option_and_then tree_in others
    → option_and_then (λ (t : Named). t.1) (cond (is_eq o) (Some (l, tree_in d)) rest) ≡ option_and_then tree_in (match_ordering o others (Some d) others)
found_or Less l d rest others e = e
found_or Equal l d rest others e = refl
found_or Greater l d rest others e = e

-- the tree of a member is that of its value
pub tree_at-get : (name : Name) (ms : Members) → tree_at name (trees_in ms) ≡ option_and_then tree_in (get_member name ms)
tree_at-get name no_members = refl
tree_at-get name (member l d ms) = rw (sym (is_eq-slice_cmp name l)) (found_or (slice_cmp nat_cmp name l) l d _ _ (tree_at-get name ms))

deep_or : (o : Ordering) (d e : Data) (others : Option Data) (n : ℕ) → (others ≡ Some e → depth e ≤ n) → match_ordering o others (Some d) others ≡ Some e → depth e ≤ max (depth d) n
deep_or Less d e others n h is = let low = h is in omega arith
deep_or Equal d e others n h is = let same : depth d ≡ depth e = cc in omega arith
deep_or Greater d e others n h is = let low = h is in omega arith

member_depth : (name : Name) (e : Data) (ms : Members) → get_member name ms ≡ Some e → depth e ≤ members_depth ms
member_depth name e no_members is = cc
member_depth name e (member l d ms) is = deep_or (slice_cmp nat_cmp name l) d e (get_member name ms) (members_depth ms) (member_depth name e ms) is

-- what stands in an object nests less deep
pub get-depth : (name : Name) (d e : Data) → get name d ≡ Some e → depth e < depth d
get-depth name null e is = cc
get-depth name (boolean b) e is = cc
get-depth name (number n) e is = cc
get-depth name (string s) e is = cc
get-depth name (array ds) e is = cc
get-depth name (object ms) e is = let low = member_depth name e ms is in omega arith
