-- Members that are taken out of an object.
use Rattle.std.proofs.Common.{◌≡◌, ℕ, List, Some, option_map, String, Global, BTreeMap, string_bytes, nat_cmp, is_eq, Bool, ◌∙◌}
use Rattle.std.specs.Cmp.Lexicographic.{slice_cmp}
use Rattle.std.specs.Map.{lookup}
use Rattle.serde_json.specs.Data.{Data, null, boolean, number, string, array, object, Members}
use Rattle.serde_json.specs.Find.{as_object, get, get_member}
use Rattle.tb_tree.specs.View.{view, members_view}
use Rattle.tb_tree.specs.declared.value.Value.{Value}
use Rattle.tb_tree.proofs.Views.{view-lookup}

abbrev named : List ℕ → String Global → Bool
named name k = is_eq (slice_cmp nat_cmp name (string_bytes k))

found : (name : List ℕ) (ms ns : Members) → Some ms ≡ Some ns → get_member name ms ≡ get_member name ns
found name ms ns e = cc

member_of : (name : List ℕ) (d : Data) (ms : Members) → Some ms ≡ as_object d → get_member name ms ≡ get name d
member_of name null ms e = cc
member_of name (boolean b) ms e = cc
member_of name (number n) ms e = cc
member_of name (string s) ms e = cc
member_of name (array ds) ms e = cc
member_of name (object ns) ms e = found name ms ns e

-- the entry of a name is the member of this name
pub member_is : (name : List ℕ) (d : Data) (m : BTreeMap (String Global) Value) → Some (members_view m.entries) ≡ as_object d → option_map view (lookup (named name) m.entries) ≡ get name d
member_is name d m e = view-lookup name m.entries ∙ member_of name d (members_view m.entries) e
