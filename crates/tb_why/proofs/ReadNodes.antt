-- A node of a plan is read, where no spot is found in it.
use Rattle.std.proofs.Common.{◌≡◌, ◌∙◌, ℕ, zero, suc, ◌<◌, List, Bool, true, false, ◌||◌, Option, Some, None, cond, codes, refl, sym, ap, arith}
use Rattle.std.specs.Prelude.{is_some, option_and_then, option_map, unwrap_or}
use Rattle.std.specs.Str.{bytes_eq}
use Rattle.serde_json.specs.Data.{Data, null, boolean, number, string, array, object, depth}
use Rattle.serde_json.specs.Find.{as_integer, as_object, as_str, get}
use Rattle.tb_value.specs.Promise.Datum as value
use Rattle.tb_filter.specs.Promise.Filtered.{Check, equals, is_absent, is_there, less}
use Rattle.tb_json.specs.Promise.Lists.{has_only, list_of}
use Rattle.tb_request.specs.declared.known.Form.TheVariants as form
use Rattle.tb_request.specs.declared.known.Word.TheVariants as word
use Rattle.tb_request.specs.Promise.HasForm.{has_form, is_word}
use Rattle.tb_request.specs.Promise.Members.{names_of}
use Rattle.tb_request.specs.Promise.Written.{args_of, texts_at}
use Rattle.tb_plan_request.specs.Laws.{tree_by_members}
use Rattle.tb_plan_request.specs.Promise.Members.{eq_members, filter_members, join_node_members, less_members, table_node_members}
use Rattle.tb_plan_request.specs.Promise.Written.{compared_at, compared_in, comparison_in, test_from, test_in, test_named, tree_in}
use Rattle.tb_plan_request.proofs.ByMembers.{reads}
use Rattle.tb_plan_request.proofs.NodeMembers.{get-depth}
use Rattle.tb_why.specs.Arguments.{args_spot}
use Rattle.tb_why.specs.Members.{has_any, members_spot}
use Rattle.tb_why.specs.Nodes.{comparison_spot, filter_spot, join_node_spot, node_by_members, node_spot}
use Rattle.tb_why.specs.Spots.{inside, or_else}
use Rattle.tb_why.proofs.NodeParts.{node_spot-is}
use Rattle.tb_why.proofs.ReadParts.{args_read, name_read}
use Rattle.tb_why.proofs.Unfound.{EachFits, Fits, Given, at_member, each_of_them, fits, given, has_another, mapped, needed_reads, neither, there}

-- ---- what is asked of a field

compared_read : (d : Data) → has_form form.Compared d ≡ true → is_some (compared_in d) ≡ true
compared_read null h = absurd (cc)
compared_read (boolean b) h = refl
compared_read (number n) h = mapped value.int (as_integer n) h
compared_read (string s) h = refl
compared_read (array ds) h = absurd (cc)
compared_read (object ms) h = absurd (cc)

comparison_read : (d : Data) → cond (is_some (get (codes "less") d)) (members_spot less_members d) (members_spot eq_members d) ≡ None → is_some (comparison_in d) ≡ true
comparison_read d k = by_less (get (codes "less") d) refl k where
  by_less : (o : Option Data) → get (codes "less") d ≡ o → cond (is_some o) (members_spot less_members d) (members_spot eq_members d) ≡ None → is_some (comparison_in d) ≡ true
  by_less None is none =
      let f : Fits eq_members d = fits eq_members d none in
      let m : EachFits eq_members d = each_of_them eq_members d f.members in
      rw f.only (mapped equals _ (needed_reads (codes "eq") form.Compared compared_in (get (codes "eq") d) m.0 (λ v _. compared_read v)))
  by_less (Some v) is none =
      let f : Fits less_members d = fits less_members d none in
      let m : EachFits less_members d = each_of_them less_members d f.members in
      let other : has_only (names_of eq_members) d ≡ false = has_another (names_of eq_members) (codes "less") d v refl is in
      rw (other, f.only) (mapped less _ (needed_reads (codes "less") form.Compared compared_in (get (codes "less") d) m.0 (λ w _. compared_read w)))

word_named : (a b : Bool) → a || b ≡ true → is_some (cond a (Some is_absent) (cond b (Some is_there) None)) ≡ true
word_named true b h = refl
word_named false true h = refl
word_named false false h = absurd (cc)

test_read : (d : Data) → has_form form.Test d ≡ true → comparison_spot d ≡ None → is_some (test_in d) ≡ true
test_read d h k = of_text (as_str d) h k where
  of_text : (o : Option (List ℕ)) → unwrap_or (option_map (is_word word.Test) o) (is_some (as_object d)) ≡ true
      → cond (is_some o) None (cond (is_some (get (codes "less") d)) (members_spot less_members d) (members_spot eq_members d)) ≡ None → is_some (test_from o d) ≡ true
  of_text None is none = comparison_read d none
  of_text (Some s) is none = word_named (bytes_eq s (codes "is_null")) (bytes_eq s (codes "is_not_null")) is

-- ---- the nodes

abbrev Good : Data → Type 0
Good d = node_spot d ≡ None → is_some (tree_in d) ≡ true

abbrev Deeper : Data → Type 0
Deeper d = (e : Data) → depth e < depth d → Good e

input_read : (n : List ℕ) (d e : Data) → Deeper d → get n d ≡ Some e → inside n node_spot d ≡ None → Given (option_and_then tree_in (get n d))
input_read n d e deeper is none =
    given _ (ap (λ o. is_some (option_and_then tree_in o)) is ∙ deeper e (get-depth n d e is) (at_member n node_spot (get n d) e is none))

table_read : (d : Data) → members_spot table_node_members d ≡ None → is_some (tree_by_members d) ≡ true
table_read d h =
    let f : Fits table_node_members d = fits table_node_members d h in
    let m : EachFits table_node_members d = each_of_them table_node_members d f.members in
    let name = name_read (codes "table") d m.0 in
    rw (f.only, name.1) refl

filter_read : (d : Data) → Deeper d → or_else (filter_spot d) (inside (codes "input") node_spot d) ≡ None → is_some (tree_by_members d) ≡ true
filter_read d deeper h =
    let parts = neither (filter_spot d) (inside (codes "input") node_spot d) h in
    let own = neither (members_spot filter_members d) (inside (codes "test") comparison_spot d) parts.0 in
    let f : Fits filter_members d = fits filter_members d own.0 in
    let m : EachFits filter_members d = each_of_them filter_members d f.members in
    let input : Given (get (codes "input") d) = there (codes "input") form.Object (get (codes "input") d) m.1.0 in
    let no_table : has_only (names_of table_node_members) d ≡ false = has_another (names_of table_node_members) (codes "input") d input.0 refl input.1 in
    let tree = input_read (codes "input") d input.0 deeper input.1 parts.1 in
    let column = name_read (codes "column") d m.0 in
    let test : Given (option_and_then test_in (get (codes "test") d)) = given _ (needed_reads (codes "test") form.Test test_in (get (codes "test") d) m.1.1.0
    (λ t e has. test_read t has (at_member (codes "test") comparison_spot (get (codes "test") d) t e own.1))) in
    rw (no_table, f.only, tree.1, column.1, test.1) refl

join_read : (d : Data) → Deeper d → or_else (join_node_spot d) (or_else (inside (codes "left") node_spot d) (inside (codes "right") node_spot d)) ≡ None → is_some (tree_by_members d) ≡ true
join_read d deeper h =
    let parts = neither (join_node_spot d) _ h in
    let sides = neither (inside (codes "left") node_spot d) (inside (codes "right") node_spot d) parts.1 in
    let own = neither (members_spot join_node_members d) (inside (codes "args") args_spot d) parts.0 in
    let f : Fits join_node_members d = fits join_node_members d own.0 in
    let m : EachFits join_node_members d = each_of_them join_node_members d f.members in
    let left : Given (get (codes "left") d) = there (codes "left") form.Object (get (codes "left") d) m.1.0 in
    let right : Given (get (codes "right") d) = there (codes "right") form.Object (get (codes "right") d) m.1.1.1.0 in
    let no_table : has_only (names_of table_node_members) d ≡ false = has_another (names_of table_node_members) (codes "left") d left.0 refl left.1 in
    let no_filter : has_only (names_of filter_members) d ≡ false = has_another (names_of filter_members) (codes "left") d left.0 refl left.1 in
    let left_tree = input_read (codes "left") d left.0 deeper left.1 sides.0 in
    let right_tree = input_read (codes "right") d right.0 deeper right.1 sides.1 in
    let args : Given (option_and_then args_of (get (codes "args") d)) = given _ (needed_reads (codes "args") form.Object args_of (get (codes "args") d) m.0
    (λ a e _. args_read a (at_member (codes "args") args_spot (get (codes "args") d) a e own.1))) in
    let left_on : Given (texts_at (codes "left_on") d) = given _ (needed_reads (codes "left_on") form.Texts (list_of as_str) (get (codes "left_on") d) m.1.1.0 (λ t _ some. some)) in
    let right_on : Given (texts_at (codes "right_on") d) = given _ (needed_reads (codes "right_on") form.Texts (list_of as_str) (get (codes "right_on") d) m.1.1.1.1.0 (λ t _ some. some)) in
    rw (no_table, no_filter, f.only, left_tree.1, right_tree.1, args.1, left_on.1, right_on.1) refl

by_form : (d : Data) → Deeper d → (filters joins : Bool) → cond filters (or_else (filter_spot d) (inside (codes "input") node_spot d))
    (cond joins (or_else (join_node_spot d) (or_else (inside (codes "left") node_spot d) (inside (codes "right") node_spot d))) (members_spot table_node_members d)) ≡ None → is_some (tree_by_members d) ≡ true
by_form d deeper true joins h = filter_read d deeper h
by_form d deeper false true h = join_read d deeper h
by_form d deeper false false h = table_read d h

good : (d : Data) → Deeper d → Good d
good d deeper h = ap is_some (reads d) ∙ by_form d deeper (has_any filter_members d) (has_any join_node_members d) (sym (node_spot-is d) ∙ h)

up_to : (n : ℕ) (d : Data) → depth d < n → Good d
up_to zero d low = absurd (omega arith)
up_to (suc n) d low = good d (λ e less. up_to n e (omega arith))

pub node_read : (d : Data) → node_spot d ≡ None → is_some (tree_in d) ≡ true
node_read d h = up_to (suc (depth d)) d (omega arith) h
