-- The steps of a kept join are read, where no spot is found in them.
use Rattle.std.proofs.Common.{◌≡◌, ◌∙◌, ℕ, ◌+◌, List, [], ◌∷◌, length, map, Bool, true, false, Option, Some, None, cond, codes, refl, sym, subst, ap, arith}
use Rattle.std.specs.Prelude.{◌==◌, is_some, option_and_then, option_map, unwrap_or, ⊤}
use Rattle.std.specs.List.{zip}
use Rattle.std.proofs.lemmas.Bool.{eqb-true}
use Rattle.serde_json.specs.Data.{Data}
use Rattle.serde_json.specs.Find.{as_str, get}
use Rattle.serde_json.specs.View.{items_of as items_made}
use Rattle.tb_value.specs.Promise.Datum as value
use Rattle.tb_value.specs.Promise.Datum.{Datum, data_in}
use Rattle.tb_value.specs.Promise.Kind.{Kind, parts_of}
use Rattle.tb_value.specs.declared.error.Side.{Side}
use Rattle.tb_value.specs.declared.error.Side.TheVariants as side
use Rattle.tb_delta.specs.Promise.Steps as steps
use Rattle.tb_json.specs.Promise.Cells.{cell_in, row_in}
use Rattle.tb_json.specs.Promise.Lists.{as_list, check, has_only, list_of}
use Rattle.tb_request.specs.declared.known.Form.TheVariants as form
use Rattle.tb_request.specs.declared.known.Word.TheVariants as word
use Rattle.tb_request.specs.declared.request.Reason.TheVariants as why
use Rattle.tb_request.specs.declared.shape.Format.{Format}
use Rattle.tb_request.specs.Promise.Members.{names_of, needed_member}
use Rattle.tb_request.specs.Promise.Written.{column_of, count_of, format_of, name_at, side_named, table_at, table_of, truth_at, Written}
use Rattle.tb_delta_request.specs.Promise.Members.{delta_members, insert_members, remove_members}
use Rattle.tb_delta_request.specs.Promise.Reading.{part_of, step_in, steps_in}
use Rattle.tb_delta_request.specs.Promise.Reading as reading
use Rattle.tb_delta_request.specs.Promise.Written.{WrittenDelta, WrittenStep, delta_of, insert, insert_of, of_two, remove, remove_of, side_at, step_of}
use Rattle.tb_why.specs.declared.spot.Command.TheVariants as command
use Rattle.tb_why.specs.declared.spot.Expected.TheVariants as expected
use Rattle.tb_why.specs.declared.spot.Step.TheVariants.{Index}
use Rattle.tb_why.specs.Spots as spots
use Rattle.tb_why.specs.Spots.{first_at, inside, under, unless}
use Rattle.tb_why.specs.Columns.{cell_spot, columns_of, items_at, items_of, kind_at, table_spot, value_expected}
use Rattle.tb_why.specs.Members.{fault_of, members_spot}
use Rattle.tb_why.specs.Requests.{format_at, parts_spot, request_spot, sides_spot}
use Rattle.tb_why.specs.Steps.{columns_at, kinds_at, row_spot, side_columns, step_spot, step_values_spot, steps_spot, typed_cell_spot, width_spot}
use Rattle.tb_why.proofs.EachRead.{Reads, items_read, next_reads, same_length, same_some, taken}
use Rattle.tb_why.proofs.MadeTables.{columns_written}
use Rattle.tb_why.proofs.ReadParts.{name_read}
use Rattle.tb_why.proofs.ReadRequests.{format_is, format_read, side_read, truth_read}
use Rattle.tb_why.proofs.Unfound.{EachFits, Fits, Given, at_member, each_of_them, fits, given, inside_items, list_reads, mapped, needed_reads, neither, not_under, so, two_steps, word_reads}
use Rattle.tb_why.proofs.WrittenColumns.{is_written}

-- ---- the columns of a side

columns_there : (n : List ℕ) (d t : Data) → get n d ≡ Some t → columns_at n d ≡ columns_of t
columns_there n d t is = ap (λ o. unwrap_or (option_map columns_of o) []) is

side_is_written : (f : Format) (n : List ℕ) (d : Data) (ws : List Written) → table_at f n d ≡ Some ws → Reads (column_of f) (columns_at n d) ws
side_is_written f n d ws h =
    let table = taken (table_of f) (get n d) ws h in
    subst (λ cs. Reads (column_of f) cs ws) (sym (columns_there n d table.0 table.1)) (columns_written f table.0 ws table.2)

-- the columns of both sides
abbrev Sides : Format → Data → List Written → List Written → Type 0
Sides f d l r = (s : Side) → Reads (column_of f) (side_columns s d) (of_two s l r)

sides_are_written : (f : Format) (d : Data) (l r : List Written) → table_at f (codes "left") d ≡ Some l → table_at f (codes "right") d ≡ Some r → Sides f d l r
sides_are_written f d l r left right side.Left = side_is_written f (codes "left") d l left
sides_are_written f d l r left right side.Right = side_is_written f (codes "right") d r right

-- ---- the members of a step

side_word : (n : List ℕ) (d : Data) → fault_of (needed_member n (form.Word word.Side)) (get n d) ≡ None → Given (side_at n d)
side_word n d h = given _ (two_steps as_str side_named (get n d) (needed_reads n (form.Word word.Side) (λ m. option_and_then side_named (as_str m)) (get n d) h (λ m _. word_reads side_named (as_str m))))

abbrev row_width : Data → Side → Data → Option spots.Spot
row_width request s row = unless (length (items_of row) == length (side_columns s request)) expected.Row

insert_read : (f : Format) (d : Data) (l r : List Written) (step : Data) → Sides f d l r → members_spot insert_members step ≡ None → width_spot d step ≡ None → is_some (insert_of l r step) ≡ true
unfolding insert_of
insert_read f d l r step sides h width =
    let k : Fits insert_members step = fits insert_members step h in
    let m : EachFits insert_members step = each_of_them insert_members step k.members in
    let s : Given (side_at (codes "insert") step) = side_word (codes "insert") step m.0 in
    let row : Given (option_and_then as_list (get (codes "row") step)) = given _ (needed_reads (codes "row") form.Values as_list (get (codes "row") step) m.1.0 (λ v _ some. some)) in
    let stands = taken as_list (get (codes "row") step) row.0 row.1 in
    let none : inside (codes "row") (row_width d s.0) step ≡ None = ap (option_and_then (λ t. inside (codes "row") (row_width d t) step)) (sym s.1) ∙ width in
    let level : (length (items_of stands.0) == length (side_columns s.0 d)) ≡ true = so _ expected.Row (at_member (codes "row") (row_width d s.0) (get (codes "row") step) stands.0 stands.1 none) in
    let items : items_of stands.0 ≡ row.0 = ap (λ o. unwrap_or o []) stands.2 in
    let columns : length (of_two s.0 l r) ≡ length (side_columns s.0 d) = same_length (column_of f) (side_columns s.0 d) (of_two s.0 l r) (sides s.0) in
    let whole : (length row.0 == length (of_two s.0 l r)) ≡ true = (λ i. length (sym items i) == columns i) ∙ level in
    rw (k.only, s.1, row.1, whole) refl

remove_read : (step : Data) → members_spot remove_members step ≡ None → is_some (remove_of step) ≡ true
unfolding remove_of
remove_read step h =
    let k : Fits remove_members step = fits remove_members step h in
    let m : EachFits remove_members step = each_of_them remove_members step k.members in
    let id : Given (option_and_then count_of (get (codes "id") step)) = given _ (needed_reads (codes "id") form.Count count_of (get (codes "id") step) m.0 (λ v _ some. some)) in
    let s : Given (side_at (codes "remove") step) = side_word (codes "remove") step m.1.0 in
    rw (k.only, id.1, s.1) refl

step_read : (f : Format) (d : Data) (l r : List Written) → Sides f d l r → (step : Data) → step_spot d step ≡ None → is_some (step_of l r step) ≡ true
step_read f d l r sides step h = by_form (is_some (get (codes "insert") step)) h where
  by_form : (b : Bool) → cond b (spots.or_else (members_spot insert_members step) (width_spot d step)) (members_spot remove_members step) ≡ None → is_some (cond b (insert_of l r step) (remove_of step)) ≡ true
  by_form true none =
      let parts = neither (members_spot insert_members step) (width_spot d step) none in
      insert_read f d l r step sides parts.0 parts.1
  by_form false none = remove_read step none

-- ---- a request to keep a join

delta_given : (d : Data) → has_only (names_of delta_members) d ≡ true → (f : Given (format_of d)) → Given (truth_at (codes "join_nulls") d) → Given (name_at (codes "left_on") d) → Given (name_at (codes "right_on") d)
    → (l : Given (table_at f.0 (codes "left") d)) → (r : Given (table_at f.0 (codes "right") d)) → Given (option_and_then (list_of (step_of l.0 r.0)) (get (codes "steps") d)) → is_some (delta_of d) ≡ true
unfolding delta_of
delta_given d only f join_nulls left_on right_on left right steps = rw (only, f.1, join_nulls.1, left_on.1, right_on.1, left.1, right.1, steps.1) refl

pub delta_read : (d : Data) → request_spot command.Delta why.Shape d ≡ None → is_some (delta_of d) ≡ true
delta_read d h =
    let outer = neither (members_spot delta_members d) (parts_spot command.Delta (format_at d) why.Shape d) h in
    let k : Fits delta_members d = fits delta_members d outer.0 in
    let m : EachFits delta_members d = each_of_them delta_members d k.members in
    let parts = neither (sides_spot (format_at d) why.Shape d) (inside (codes "steps") (steps_spot why.Shape d) d) outer.1 in
    let sides = neither (inside (codes "left") (table_spot (format_at d) why.Shape) d) (inside (codes "right") (table_spot (format_at d) why.Shape) d) parts.0 in
    let f : Given (format_of d) = format_read d m.0 in
    let is : f.0 ≡ format_at d = sym (format_is (format_of d) f.0 f.1) in
    let left : Given (table_at f.0 (codes "left") d) = side_read (codes "left") d f.0 is m.1.1.0 sides.0 in
    let right : Given (table_at f.0 (codes "right") d) = side_read (codes "right") d f.0 is m.1.1.1.1.0 sides.1 in
    let both : Sides f.0 d left.0 right.0 = sides_are_written f.0 d left.0 right.0 left.1 right.1 in
    delta_given d k.only f
    (truth_read (codes "join_nulls") d m.1.0)
    (name_read (codes "left_on") d m.1.1.1.0)
    (name_read (codes "right_on") d m.1.1.1.1.1.0)
    left right
    (given _ (needed_reads (codes "steps") form.Values (list_of (step_of left.0 right.0)) (get (codes "steps") d) m.1.1.1.1.1.1.0
    (λ s e some. list_reads (step_of left.0 right.0) (step_spot d) (as_list s) some (at_member (codes "steps") (steps_spot why.Shape d) (get (codes "steps") d) s e parts.1) (step_read f.0 d left.0 right.0 both))))

-- ---- the values of steps

more_read : (o : Option Datum) (r : Option value.Items) → is_some o ≡ true → is_some r ≡ true → is_some (option_and_then (λ v. option_map (value.more v) r) o) ≡ true
more_read None r h k = absurd (cc)
more_read (Some v) None h k = absurd (cc)
more_read (Some v) (Some vs) h k = refl

row_reads : (f : Format) (i : ℕ) (ds : List Data) (ws : List Written) (vs : List Data) → Reads (column_of f) ds ws → length vs ≡ length ws → first_at typed_cell_spot i (zip (map kind_at ds) vs) ≡ None → is_some (row_in (parts_of (map part_of ws)) (items_made vs)) ≡ true
row_reads f i [] [] [] reads level h = refl
row_reads f i [] [] (v ∷ vs) reads level h = absurd (omega (arith, level))
row_reads f i [] (w ∷ ws) vs reads level h = absurd reads
row_reads f i (d ∷ ds) [] vs reads level h = absurd reads
row_reads f i (d ∷ ds) (w ∷ ws) [] reads level h = absurd (omega (arith, level))
row_reads f i (d ∷ ds) (w ∷ ws) (v ∷ vs) reads level h =
    let both : (under (Index i) (typed_cell_spot (kind_at d, v)) ≡ None) × (first_at typed_cell_spot (i + 1) (zip (map kind_at ds) vs) ≡ None) = neither _ _ h in
    let cell : cell_spot w.kind v ≡ None = ap (option_and_then (λ t. cell_spot t v)) (sym (is_written f d w reads.0).kind) ∙ not_under (Index i) _ both.0 in
    more_read (cell_in w.kind v) (row_in (parts_of (map part_of ws)) (items_made vs)) (so _ (value_expected w.kind) cell) (row_reads f (i + 1) ds ws vs reads.1 (omega (arith, level)) both.1)

equal_lengths : (n m : ℕ) (u : ⊤) → check (n == m) ≡ Some u → n ≡ m
equal_lengths n m u h = same (n == m) refl h where
  same : (b : Bool) → (n == m) ≡ b → check b ≡ Some u → n ≡ m
  same true e k = eqb-true n m e
  same false e k = absurd (cc)

abbrev kinds_on : Side → Data → List (Option Kind)
kinds_on s d = map kind_at (side_columns s d)

kinds_are : (s : Side) (d : Data) → of_two s (kinds_at (codes "left") d) (kinds_at (codes "right") d) ≡ kinds_on s d
kinds_are side.Left d = refl
kinds_are side.Right d = refl

abbrev found : Data → Data → Option spots.Spot
found d step = step_values_spot (kinds_at (codes "left") d) (kinds_at (codes "right") d) step

insert_made : (f : Format) (d : Data) (l r : List Written) (step : Data) (w : WrittenStep) → Sides f d l r → insert_of l r step ≡ Some w → found d step ≡ None → is_some (step_in l r w) ≡ true
unfolding insert_of
insert_made f d l r step w sides h none =
    let known = taken _ (check (has_only (names_of insert_members) step)) w h in
    let s = taken _ (side_at (codes "insert") step) w known.2 in
    let row = taken _ (option_and_then as_list (get (codes "row") step)) w s.2 in
    let whole = taken _ (check (length row.0 == length (of_two s.0 l r))) w row.2 in
    let is = same_some (insert s.0 row.0) w whole.2 in
    let stands = taken as_list (get (codes "row") step) row.0 row.1 in
    let of_side : inside (codes "row") (row_spot (of_two s.0 (kinds_at (codes "left") d) (kinds_at (codes "right") d))) step ≡ None =
    ap (option_and_then (λ t. inside (codes "row") (row_spot (of_two t (kinds_at (codes "left") d) (kinds_at (codes "right") d))) step)) (sym s.1) ∙ none in
    let cells = at_member (codes "row") (row_spot (of_two s.0 (kinds_at (codes "left") d) (kinds_at (codes "right") d))) (get (codes "row") step) stands.0 stands.1 of_side in
    let items : items_of stands.0 ≡ row.0 = ap (λ o. unwrap_or o []) stands.2 in
    let free : first_at typed_cell_spot 0 (zip (kinds_on s.0 d) row.0) ≡ None = (λ i. first_at typed_cell_spot 0 (zip (sym (kinds_are s.0 d) i) (sym items i))) ∙ cells in
    subst (λ v. is_some (step_in l r v) ≡ true) is
    (mapped (steps.insert s.0) (reading.row_in (of_two s.0 l r) row.0) (mapped data_in _
    (row_reads f 0 (side_columns s.0 d) (of_two s.0 l r) row.0 (sides s.0) (equal_lengths (length row.0) (length (of_two s.0 l r)) whole.0 whole.1) free)))

remove_made : (l r : List Written) (step : Data) (w : WrittenStep) → remove_of step ≡ Some w → is_some (step_in l r w) ≡ true
unfolding remove_of
remove_made l r step w h =
    let known = taken _ (check (has_only (names_of remove_members) step)) w h in
    let id = taken _ (option_and_then count_of (get (codes "id") step)) w known.2 in
    let s = taken _ (side_at (codes "remove") step) w id.2 in
    subst (λ v. is_some (step_in l r v) ≡ true) (same_some (remove s.0 id.0) w s.2) refl

step_made : (f : Format) (d : Data) (l r : List Written) → Sides f d l r → (step : Data) (w : WrittenStep) → step_of l r step ≡ Some w → found d step ≡ None → is_some (step_in l r w) ≡ true
step_made f d l r sides step w h none = by_form (is_some (get (codes "insert") step)) h where
  by_form : (b : Bool) → cond b (insert_of l r step) (remove_of step) ≡ Some w → is_some (step_in l r w) ≡ true
  by_form true e = insert_made f d l r step w sides e none
  by_form false e = remove_made l r step w e

-- what a request has of its tables and steps
pub record IsDelta (d : Data) (w : WrittenDelta) : Type 0 where
  pub left : table_at (format_at d) (codes "left") d ≡ Some w.left
  pub right : table_at (format_at d) (codes "right") d ≡ Some w.right
  pub steps : option_and_then (list_of (step_of w.left w.right)) (get (codes "steps") d) ≡ Some w.steps

pub is_delta : (d : Data) (w : WrittenDelta) → delta_of d ≡ Some w → IsDelta d w
unfolding delta_of
is_delta d w h =
    let known = taken _ (check (has_only (names_of delta_members) d)) w h in
    let f = taken _ (format_of d) w known.2 in
    let join_nulls = taken _ (truth_at (codes "join_nulls") d) w f.2 in
    let left_on = taken _ (name_at (codes "left_on") d) w join_nulls.2 in
    let right_on = taken _ (name_at (codes "right_on") d) w left_on.2 in
    let left = taken _ (table_at f.0 (codes "left") d) w right_on.2 in
    let right = taken _ (table_at f.0 (codes "right") d) w left.2 in
    let steps = taken _ (option_and_then (list_of (step_of left.0 right.0)) (get (codes "steps") d)) w right.2 in
    let is : f.0 ≡ format_at d = sym (format_is (format_of d) f.0 f.1) in
    subst (IsDelta d) (same_some _ w steps.2) (record {
      left = ap (λ g. table_at g (codes "left") d) (sym is) ∙ left.1;
      right = ap (λ g. table_at g (codes "right") d) (sym is) ∙ right.1;
      steps = steps.1;
    })

pub steps_made : (d : Data) (w : WrittenDelta) → IsDelta d w → inside (codes "steps") (steps_spot why.Value d) d ≡ None → is_some (steps_in w.left w.right w.steps) ≡ true
steps_made d w k h =
    let read : Reads (step_of w.left w.right) (items_at (codes "steps") d) w.steps = items_read (step_of w.left w.right) (get (codes "steps") d) w.steps k.steps in
    let none : first_at (found d) 0 (items_at (codes "steps") d) ≡ None = inside_items (codes "steps") (first_at (found d) 0) d refl h in
    next_reads (step_of w.left w.right) (step_in w.left w.right) (found d) 0 (items_at (codes "steps") d) w.steps read none
    (step_made (format_at d) d w.left w.right (sides_are_written (format_at d) d w.left w.right k.left k.right))
