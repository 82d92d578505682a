-- What is found in a node, by its members.
use Rattle.std.proofs.Common.{◌≡◌, ◌∙◌, Bool, true, false, Option, Some, None, Ordering, Less, Equal, Greater, is_eq, cond, nat_cmp, refl, sym, ap, codes}
use Rattle.std.specs.Cmp.Lexicographic.{slice_cmp}
use Rattle.std.specs.List.{find}
use Rattle.std.specs.Option.{option_and_then}
use Rattle.std.specs.Ordering.{match_ordering}
use Rattle.std.specs.Str.{bytes_eq}
use Rattle.std.proofs.lemmas.Map.Text.{is_eq-slice_cmp}
use Rattle.serde_json.specs.Data.{Data, null, boolean, number, string, array, object, Members, no_members, member}
use Rattle.serde_json.specs.Find.{get, get_member}
use Rattle.tb_value.specs.Promise.Names.{Name}
use Rattle.tb_why.specs.declared.spot.Step.TheVariants.{Member}
use Rattle.tb_plan_request.specs.Promise.Members.{filter_members, join_node_members, table_node_members}
use Rattle.tb_why.specs.Members.{has_any, members_spot}
use Rattle.tb_why.specs.Nodes.{filter_spot, found_in, join_node_spot, node_by_members, node_from, node_spot, nodes_found}
use Rattle.tb_why.specs.Spots.{Spot, inside, or_else, under}

abbrev Named : Type 0
Named = Name × Option Spot

found_or : (o : Ordering) (l : Name) (d : Data) (rest : Option Named) (others : Option Data) → option_and_then (λ (t : Named). t.1) rest ≡ option_and_then node_spot others
    → option_and_then (λ (t : Named). t.1) (cond (is_eq o) (Some (l, node_spot d)) rest) ≡ option_and_then node_spot (match_ordering o others (Some d) others)
found_or Less l d rest others e = e
found_or Equal l d rest others e = refl
found_or Greater l d rest others e = e

-- what is found in a member is that of its value
member_found : (name : Name) (ms : Members) → option_and_then (λ (t : Named). t.1) (find (λ (t : Named). bytes_eq name t.0) (nodes_found ms)) ≡ option_and_then node_spot (get_member name ms)
member_found name no_members = refl
member_found name (member l d ms) = rw (sym (is_eq-slice_cmp name l)) (found_or (slice_cmp nat_cmp name l) l d _ _ (member_found name ms))

abbrev found : Name → Members → Option Spot
found name ms = under (Member name) (option_and_then node_spot (get_member name ms))

found_is : (name : Name) (ms : Members) → found_in name (nodes_found ms) ≡ found name ms
found_is name ms = ap (under (Member name)) (member_found name ms)

pub node_spot-is : (d : Data) → node_spot d ≡ node_by_members d
node_spot-is null = refl
node_spot-is (boolean b) = refl
node_spot-is (number n) = refl
node_spot-is (string s) = refl
node_spot-is (array ds) = refl
node_spot-is (object ms) = λ i. node_from (object ms) (found_is (codes "input") ms i) (found_is (codes "left") ms i) (found_is (codes "right") ms i)

-- ---- a node of each form

abbrev chosen : Data → Bool → Bool → Option Spot → Option Spot → Option Spot → Option Spot
chosen d is_filter is_join filtered joined left =
    cond is_filter (or_else filtered (inside (codes "input") node_spot d))
    (cond is_join (or_else joined (or_else left (inside (codes "right") node_spot d))) (members_spot table_node_members d))

abbrev left_of : Data → Option Spot
left_of d = inside (codes "left") node_spot d

pub filter_found : (d : Data) (s : Spot) → has_any filter_members d ≡ true → filter_spot d ≡ Some s → Some s ≡ node_spot d
filter_found d s is found = sym (node_spot-is d ∙ (λ i. chosen d (is i) (has_any join_node_members d) (found i) (join_node_spot d) (left_of d)))

pub filter_input : (d : Data) → has_any filter_members d ≡ true → filter_spot d ≡ None → inside (codes "input") node_spot d ≡ node_spot d
filter_input d is none = sym (node_spot-is d ∙ (λ i. chosen d (is i) (has_any join_node_members d) (none i) (join_node_spot d) (left_of d)))

pub join_found : (d : Data) (s : Spot) → has_any filter_members d ≡ false → has_any join_node_members d ≡ true → join_node_spot d ≡ Some s → Some s ≡ node_spot d
join_found d s other is found = sym (node_spot-is d ∙ (λ i. chosen d (other i) (is i) (filter_spot d) (found i) (left_of d)))

pub left_found : (d : Data) (s : Spot) → has_any filter_members d ≡ false → has_any join_node_members d ≡ true → join_node_spot d ≡ None → left_of d ≡ Some s → Some s ≡ node_spot d
left_found d s other is none found = sym (node_spot-is d ∙ (λ i. chosen d (other i) (is i) (filter_spot d) (none i) (found i)))

pub right_node : (d : Data) → has_any filter_members d ≡ false → has_any join_node_members d ≡ true → join_node_spot d ≡ None → left_of d ≡ None → inside (codes "right") node_spot d ≡ node_spot d
right_node d other is none passes = sym (node_spot-is d ∙ (λ i. chosen d (other i) (is i) (filter_spot d) (none i) (passes i)))

pub table_node : (d : Data) → has_any filter_members d ≡ false → has_any join_node_members d ≡ false → members_spot table_node_members d ≡ node_spot d
table_node d other another = sym (node_spot-is d ∙ (λ i. chosen d (other i) (another i) (filter_spot d) (join_node_spot d) (left_of d)))
