-- Each reason has a place.
use Rattle.std.proofs.Common.{◌≡◌, ◌∙◌, ℕ, ◌+◌, ◌≤◌, List, [], ◌∷◌, map, Bool, true, false, ◌&&◌, Option, Some, None, codes, refl, sym, subst, ap, arith}
use Rattle.std.specs.Prelude.{is_some, nat_le, option_and_then, option_map, ok_or, sum_by, unwrap_or, Result, Ok, Err}
use Rattle.std.proofs.lemmas.List.Sums.{sum_by-cons}
use Rattle.serde_json.specs.Data.{Data, null}
use Rattle.serde_json.specs.Find.{as_str, get}
use Rattle.tb_value.specs.Promise.Names.{Name}
use Rattle.tb_value.proofs.Counts.{sum_by-map}
use Rattle.tb_chunk.specs.Promise.Col.{Col}
use Rattle.tb_pool.specs.Promise.ExecView.{ExecView}
use Rattle.tb_json.specs.Promise.Lists.{check, has_only, list_of}
use Rattle.tb_request.specs.declared.known.Form.{Form}
use Rattle.tb_request.specs.declared.known.Form.TheVariants as form
use Rattle.tb_request.specs.declared.request.Reason.{Reason}
use Rattle.tb_request.specs.declared.request.Reason.TheVariants as why
use Rattle.tb_request.specs.declared.runs.TheConstants.{MAX_RUN_VALUES}
use Rattle.tb_request.specs.declared.shape.Format.{Format}
use Rattle.tb_request.specs.Promise.HasForm.{has_form}
use Rattle.tb_request.specs.Promise.Members.{dummies_members, exec_members, join_members, names_of, needed_member, pivot_members, standing_members, unpivot_members}
use Rattle.tb_request.specs.Promise.Reading.{◌>>=◌, dummies_in, dummies_request_of, join_in, join_request_of, may_count, may_stand, pivot_in, pivot_request_of, request_tables, unpivot_in, unpivot_request_of, value_of}
use Rattle.tb_request.specs.Promise.Written.{agg_of, args_of, count_at, count_of, dummies_of, exec_of, format_of, join_of, optional_member, pivot_of, plan_of, standard_exec, table_at, table_of, text_at, texts_at, texts_if_at, truth_at, unpivot_of, Written, WrittenDummies, WrittenJoin, WrittenPivot, WrittenUnpivot}
use Rattle.tb_plan_request.specs.Promise.Members.{entry_members, plan_members}
use Rattle.tb_plan_request.specs.Promise.Reading.{plan_in, plan_request_of, table_columns}
use Rattle.tb_plan_request.specs.Promise.Written as plan_written
use Rattle.tb_plan_request.specs.Promise.Written.{WrittenPlan, table_in, tree_in, written_of}
use Rattle.tb_delta_request.specs.Promise.Members.{delta_members}
use Rattle.tb_delta_request.specs.Promise.Reading.{delta_in, delta_request_of, steps_in}
use Rattle.tb_delta_request.specs.Promise.Written.{WrittenDelta, delta_of}
use Rattle.tb_group_request.specs.Promise.Members.{group_members}
use Rattle.tb_group_request.specs.Promise.Reading.{group_in, group_request_of}
use Rattle.tb_group_request.specs.Promise.Written.{WrittenGroup, agg_in, group_of}
use Rattle.tb_why.specs.declared.spot.Command.{Command}
use Rattle.tb_why.specs.declared.spot.Command.TheVariants as command
use Rattle.tb_why.specs.declared.spot.Step.TheVariants.{Index, Member}
use Rattle.tb_why.specs.Arguments.{args_spot}
use Rattle.tb_why.specs.Columns.{items_at, room_after, table_room_spot, table_rows, table_spot}
use Rattle.tb_why.specs.Members.{fault_of, members_spot}
use Rattle.tb_why.specs.Requests.{aggs_spot, entries_spot, entry_room_spot, entry_rows, entry_spot, entry_table, exec_known, exec_spot, format_at, only_spot, parts_spot, plan_spot, reason_of, refusal, request_spot, right_room, sides_spot}
use Rattle.tb_why.specs.Spots.{Spot, first_at, first_in_room, inside, or_else, under}
use Rattle.tb_why.specs.Steps.{steps_spot}
use Rattle.tb_why.proofs.EachRead.{Reads, items_read, same_some, taken}
use Rattle.tb_why.proofs.MadeTables.{Free, table_has_room}
use Rattle.tb_why.proofs.ReadRequests.{dummies_read, format_is, group_read, join_read, pivot_read, plan_read, unpivot_read}
use Rattle.tb_why.proofs.ReadSteps.{IsDelta, delta_read, is_delta, steps_made}
use Rattle.tb_why.proofs.Stages.{Placed, before_answer, not_none, tables_placed, value_stage}
use Rattle.tb_why.proofs.Unfound.{EachFits, at_member, each_of_them, fits, in_room, inside_items, neither, not_under, so}

-- ---- the numbers by which work is run

-- a number of which a test is asked
tested : (n : List ℕ) (f : Form) (test : ℕ → Bool) (o : Option Data) (v : ℕ) → ((m : Data) → has_form f m ≡ unwrap_or (option_map test (count_of m)) false)
    → option_and_then count_of o ≡ Some v → fault_of (needed_member n f) o ≡ None → test v ≡ true
tested n f test None v is e h = absurd (cc)
tested n f test (Some m) v is e h = ap (λ c. unwrap_or (option_map test c) false) (sym e) ∙ sym (is m) ∙ so (has_form f m) _ h

all_stand : (a b c : Bool) → a ≡ true → b ≡ true → c ≡ true → a && b && c ≡ true
all_stand true true c h k l = l
all_stand true false c h k l = absurd (cc)
all_stand false b c h k l = absurd (cc)

plan_stands : (d : Data) (p : ExecView) → plan_of d ≡ Some p → members_spot (standing_members) d ≡ None → may_stand p ≡ true
unfolding plan_of
plan_stands d p h none =
    let ks = standing_members in
    let m : EachFits (standing_members) d = each_of_them ks d (fits ks d none).members in
    let known = taken _ (check (has_only (names_of ks) d)) p h in
    let workers = taken _ (count_at (codes "workers") d) p known.2 in
    let partitions = taken _ (count_at (codes "partitions") d) p workers.2 in
    let small = taken _ (count_at (codes "small") d) p partitions.2 in
    let num = taken _ (count_at (codes "num") d) p small.2 in
    let den = taken _ (count_at (codes "den") d) p num.2 in
    let view = same_some _ p den.2 in
    ap may_stand (sym view) ∙ all_stand (may_count workers.0) (may_count partitions.0) (nat_le 1 den.0)
    (tested (codes "workers") form.Workers may_count (get (codes "workers") d) workers.0 (λ m. refl) workers.1 m.1.1.1.1.0)
    (tested (codes "partitions") form.Workers may_count (get (codes "partitions") d) partitions.0 (λ m. refl) partitions.1 m.1.1.0)
    (tested (codes "den") form.Divisor (nat_le 1) (get (codes "den") d) den.0 (λ m. refl) den.1 m.0)

exec_stands : (d : Data) (p : ExecView) → exec_of d ≡ Some p → exec_spot why.Exec d ≡ None → may_stand p ≡ true
exec_stands d p h none = of_member (get (codes "exec") d) refl h where
  of_member : (o : Option Data) → get (codes "exec") d ≡ o → optional_member standard_exec plan_of o ≡ Some p → may_stand p ≡ true
  of_member None is e = ap may_stand (sym (same_some standard_exec p e))
  of_member (Some m) is e = plan_stands m p e (at_member (codes "exec") (members_spot (standing_members)) (get (codes "exec") d) m is none)

-- ---- the tables of a request

-- the table that a member is
table_there : (f : Format) (n : Name) (d : Data) (ws : List Written) → table_at f n d ≡ Some ws → (t : Data) × (get n d ≡ Some t) × (table_of f t ≡ Some ws)
table_there f n d ws h = taken (table_of f) (get n d) ws h

-- no spot is found in the only table
only_free : (f : Format) (q : Reason) (d t : Data) → get (codes "table") d ≡ Some t → inside (codes "table") (table_spot f q) d ≡ None → Free (table_spot f q) (t ∷ [])
only_free f q d t is h = (at_member (codes "table") (table_spot f q) (get (codes "table") d) t is h, tt)

only_placed : (f : Format) (d : Data) (ws : List Written) (exec : ExecView) (reason : Reason) → (there : (t : Data) × (get (codes "table") d ≡ Some t) × (table_of f t ≡ Some ws))
    → only_spot f reason d ≡ None → (reason ≡ why.Exec → may_stand exec ≡ true) → Placed f (there.0 ∷ []) (ws ∷ []) exec reason
only_placed f d ws exec reason there none stands =
    let at : (q : Reason) → reason ≡ q → only_spot f q d ≡ None = λ q is. subst (λ p. only_spot f p d ≡ None) is none in
    record {
      written = (there.2, tt);
      value = λ is. only_free f why.Value d there.0 there.1 (at why.Value is);
      room = λ is.
          let few : table_rows there.0 ≤ MAX_RUN_VALUES = table_has_room MAX_RUN_VALUES there.0 (at_member (codes "table") (table_room_spot MAX_RUN_VALUES) (get (codes "table") d) there.0 there.1 (at why.Rows is)) in
          omega (arith, sum_by-cons table_rows there.0 []);
      stands = stands;
      heights = λ is. only_free f why.Heights d there.0 there.1 (at why.Heights is);
      name = λ is. only_free f why.Name d there.0 there.1 (at why.Name is);
      flag = λ is. only_free f why.Flag d there.0 there.1 (at why.Flag is);
    }

-- no spot is found in either table
sides_free : (f : Format) (q : Reason) (d l r : Data) → get (codes "left") d ≡ Some l → get (codes "right") d ≡ Some r
    → or_else (inside (codes "left") (table_spot f q) d) (inside (codes "right") (table_spot f q) d) ≡ None → Free (table_spot f q) (l ∷ r ∷ [])
sides_free f q d l r left right h =
    let s = neither (inside (codes "left") (table_spot f q) d) (inside (codes "right") (table_spot f q) d) h in
    (at_member (codes "left") (table_spot f q) (get (codes "left") d) l left s.0, (at_member (codes "right") (table_spot f q) (get (codes "right") d) r right s.1, tt))

-- both tables have room
sides_have_room : (d l r : Data) → get (codes "left") d ≡ Some l → get (codes "right") d ≡ Some r
    → or_else (inside (codes "left") (table_room_spot MAX_RUN_VALUES) d) (inside (codes "right") (table_room_spot (right_room d)) d) ≡ None → sum_by table_rows (l ∷ r ∷ []) ≤ MAX_RUN_VALUES
sides_have_room d l r left right h =
    let s = neither (inside (codes "left") (table_room_spot MAX_RUN_VALUES) d) (inside (codes "right") (table_room_spot (right_room d)) d) h in
    let room : right_room d ≡ room_after MAX_RUN_VALUES l = ap (λ o. unwrap_or (option_map (room_after MAX_RUN_VALUES) o) MAX_RUN_VALUES) left in
    let few : table_rows l ≤ MAX_RUN_VALUES = table_has_room MAX_RUN_VALUES l (at_member (codes "left") (table_room_spot MAX_RUN_VALUES) (get (codes "left") d) l left s.0) in
    let fit : table_rows r ≤ right_room d = table_has_room (right_room d) r (at_member (codes "right") (table_room_spot (right_room d)) (get (codes "right") d) r right s.1) in
    omega (arith, room, sum_by-cons table_rows l (r ∷ []), sum_by-cons table_rows r [])

sides_placed : (f : Format) (d : Data) (ls rs : List Written) (exec : ExecView) (reason : Reason)
    → (left : (t : Data) × (get (codes "left") d ≡ Some t) × (table_of f t ≡ Some ls)) → (right : (t : Data) × (get (codes "right") d ≡ Some t) × (table_of f t ≡ Some rs))
    → sides_spot f reason d ≡ None → (reason ≡ why.Exec → may_stand exec ≡ true) → Placed f (left.0 ∷ right.0 ∷ []) (ls ∷ rs ∷ []) exec reason
sides_placed f d ls rs exec reason left right none stands =
    let at : (q : Reason) → reason ≡ q → sides_spot f q d ≡ None = λ q is. subst (λ p. sides_spot f p d ≡ None) is none in
    record {
      written = (left.2, (right.2, tt));
      value = λ is. sides_free f why.Value d left.0 right.0 left.1 right.1 (at why.Value is);
      room = λ is. sides_have_room d left.0 right.0 left.1 right.1 (at why.Rows is);
      stands = stands;
      heights = λ is. sides_free f why.Heights d left.0 right.0 left.1 right.1 (at why.Heights is);
      name = λ is. sides_free f why.Name d left.0 right.0 left.1 right.1 (at why.Name is);
      flag = λ is. sides_free f why.Flag d left.0 right.0 left.1 right.1 (at why.Flag is);
    }

-- ---- a request to join

record IsJoin (d : Data) (w : WrittenJoin) : Type 0 where
  exec : exec_of d ≡ Some w.exec
  left : table_at (format_at d) (codes "left") d ≡ Some w.left
  right : table_at (format_at d) (codes "right") d ≡ Some w.right

is_join : (d : Data) (w : WrittenJoin) → join_of d ≡ Some w → IsJoin d w
unfolding join_of
is_join d w h =
    let known = taken _ (check (has_only (names_of join_members) d)) w h in
    let args = taken _ (option_and_then args_of (get (codes "args") d)) w known.2 in
    let exec = taken _ (exec_of d) w args.2 in
    let trace = taken _ (truth_at (codes "trace") d) w exec.2 in
    let f = taken _ (format_of d) w trace.2 in
    let left = taken _ (table_at f.0 (codes "left") d) w f.2 in
    let left_on = taken _ (texts_at (codes "left_on") d) w left.2 in
    let right = taken _ (table_at f.0 (codes "right") d) w left_on.2 in
    let right_on = taken _ (texts_at (codes "right_on") d) w right.2 in
    let is : f.0 ≡ format_at d = sym (format_is (format_of d) f.0 f.1) in
    subst (IsJoin d) (same_some _ w right_on.2) (record {
      exec = exec.1;
      left = ap (λ g. table_at g (codes "left") d) (sym is) ∙ left.1;
      right = ap (λ g. table_at g (codes "right") d) (sym is) ∙ right.1;
    })

-- what is not found in the numbers by which work is run, and in both tables
exec_and_sides : (d : Data) (reason : Reason) → request_spot command.Join reason d ≡ None → (exec_spot reason d ≡ None) × (sides_spot (format_at d) reason d ≡ None)
exec_and_sides d reason none =
    let outer = neither (members_spot join_members d) (parts_spot command.Join (format_at d) reason d) none in
    let args = neither (inside (codes "args") args_spot d) _ outer.1 in
    neither (exec_spot reason d) (sides_spot (format_at d) reason d) args.1

join_placed : (d : Data) (reason : Reason) → join_in d ≡ Err reason → request_spot command.Join reason d ≡ None → ⊥
unfolding join_in
join_placed d reason h none =
    let at : (q : Reason) → reason ≡ q → request_spot command.Join q d ≡ None = λ q is. subst (λ p. request_spot command.Join p d ≡ None) is none in
    value_stage (join_of d) why.Shape reason _ h
    (λ e is. not_none _ e (join_read d (at why.Shape is)))
    (λ w written more.
    let j : IsJoin d w = is_join d w written in
    let left = table_there (format_at d) (codes "left") d w.left j.left in
    let right = table_there (format_at d) (codes "right") d w.right j.right in
    tables_placed (format_at d) (left.0 ∷ right.0 ∷ []) (w.left ∷ w.right ∷ []) w.exec reason
    (sides_placed (format_at d) d w.left w.right w.exec reason left right (exec_and_sides d reason none).1 (λ is. exec_stands d w.exec j.exec (exec_and_sides d why.Exec (at why.Exec is)).0))
    (before_answer _ reason _ more))

-- ---- requests of one table

unpivot_table : (d : Data) (w : WrittenUnpivot) → unpivot_of d ≡ Some w → table_at (format_at d) (codes "table") d ≡ Some w.table
unfolding unpivot_of
unpivot_table d w h =
    let known = taken _ (check (has_only (names_of unpivot_members) d)) w h in
    let f = taken _ (format_of d) w known.2 in
    let table = taken _ (table_at f.0 (codes "table") d) w f.2 in
    let on = taken _ (texts_at (codes "on") d) w table.2 in
    let index = taken _ (texts_at (codes "index") d) w on.2 in
    let variable_name = taken _ (text_at (codes "variable_name") d) w index.2 in
    let value_name = taken _ (text_at (codes "value_name") d) w variable_name.2 in
    ap (λ g. table_at g (codes "table") d) (format_is (format_of d) f.0 f.1) ∙ table.1 ∙ ap (λ (v : WrittenUnpivot). Some v.table) (same_some _ w value_name.2)

dummies_table : (d : Data) (w : WrittenDummies) → dummies_of d ≡ Some w → table_at (format_at d) (codes "table") d ≡ Some w.table
unfolding dummies_of
dummies_table d w h =
    let known = taken _ (check (has_only (names_of dummies_members) d)) w h in
    let f = taken _ (format_of d) w known.2 in
    let table = taken _ (table_at f.0 (codes "table") d) w f.2 in
    let columns = taken _ (texts_if_at (codes "columns") d) w table.2 in
    let separator = taken _ (text_at (codes "separator") d) w columns.2 in
    let drop_first = taken _ (truth_at (codes "drop_first") d) w separator.2 in
    ap (λ g. table_at g (codes "table") d) (format_is (format_of d) f.0 f.1) ∙ table.1 ∙ ap (λ (v : WrittenDummies). Some v.table) (same_some _ w drop_first.2)

pivot_table : (d : Data) (w : WrittenPivot) → pivot_of d ≡ Some w → table_at (format_at d) (codes "table") d ≡ Some w.table
unfolding pivot_of
pivot_table d w h =
    let known = taken _ (check (has_only (names_of pivot_members) d)) w h in
    let f = taken _ (format_of d) w known.2 in
    let table = taken _ (table_at f.0 (codes "table") d) w f.2 in
    let on = taken _ (texts_at (codes "on") d) w table.2 in
    let index = taken _ (texts_if_at (codes "index") d) w on.2 in
    let values = taken _ (texts_if_at (codes "values") d) w index.2 in
    let sort_columns = taken _ (truth_at (codes "sort_columns") d) w values.2 in
    let agg = taken _ (agg_of d) w sort_columns.2 in
    let separator = taken _ (text_at (codes "separator") d) w agg.2 in
    ap (λ g. table_at g (codes "table") d) (format_is (format_of d) f.0 f.1) ∙ table.1 ∙ ap (λ (v : WrittenPivot). Some v.table) (same_some _ w separator.2)

-- by what is known where no spot is found for the shape, and for another reason
one_table_placed : {W B : Type 0} (d : Data) (reason : Reason) (o : Option W) (table : W → List Written) (exec : W → ExecView) (answer : W → List (List Col) → B) (spot : Reason → Option Spot)
    → (spot why.Shape ≡ None → is_some o ≡ true) → ((w : W) → o ≡ Some w → table_at (format_at d) (codes "table") d ≡ Some (table w)) → (spot reason ≡ None → only_spot (format_at d) reason d ≡ None)
    → ((w : W) → o ≡ Some w → spot why.Exec ≡ None → may_stand (exec w) ≡ true)
    → (ok_or o why.Shape >>= λ w. request_tables (table w ∷ []) (exec w) >>= λ css. Ok (answer w css)) ≡ Err reason → spot reason ≡ None → ⊥
one_table_placed d reason o table exec answer spot read written only stands h none = value_stage o why.Shape reason _ h
    (λ e is. not_none o e (read (subst (λ q. spot q ≡ None) is none)))
    (λ w is_w more.
    let there = table_there (format_at d) (codes "table") d (table w) (written w is_w) in
    tables_placed (format_at d) (there.0 ∷ []) (table w ∷ []) (exec w) reason
    (only_placed (format_at d) d (table w) (exec w) reason there (only none) (λ is. stands w is_w (subst (λ q. spot q ≡ None) is none)))
    (before_answer (request_tables (table w ∷ []) (exec w)) reason (answer w) more))

unpivot_placed : (d : Data) (reason : Reason) → unpivot_in d ≡ Err reason → request_spot command.Unpivot reason d ≡ None → ⊥
unfolding unpivot_in
unpivot_placed d reason h none = one_table_placed d reason (unpivot_of d) (λ w. w.table) (λ _. standard_exec) _ (λ q. request_spot command.Unpivot q d) (unpivot_read d) (unpivot_table d)
    (λ k. (neither (members_spot unpivot_members d) (parts_spot command.Unpivot (format_at d) reason d) k).1) (λ _ _ _. refl) h none

dummies_placed : (d : Data) (reason : Reason) → dummies_in d ≡ Err reason → request_spot command.Dummies reason d ≡ None → ⊥
unfolding dummies_in
dummies_placed d reason h none = one_table_placed d reason (dummies_of d) (λ w. w.table) (λ _. standard_exec) _ (λ q. request_spot command.Dummies q d) (dummies_read d) (dummies_table d)
    (λ k. (neither (members_spot dummies_members d) (parts_spot command.Dummies (format_at d) reason d) k).1) (λ _ _ _. refl) h none

pivot_placed : (d : Data) (reason : Reason) → pivot_in d ≡ Err reason → request_spot command.Pivot reason d ≡ None → ⊥
unfolding pivot_in
pivot_placed d reason h none = one_table_placed d reason (pivot_of d) (λ w. w.table) (λ _. standard_exec) _ (λ q. request_spot command.Pivot q d) (pivot_read d) (pivot_table d)
    (λ k. (neither (members_spot pivot_members d) (parts_spot command.Pivot (format_at d) reason d) k).1) (λ _ _ _. refl) h none

-- ---- a request to group a table

record IsGroup (d : Data) (w : WrittenGroup) : Type 0 where
  exec : exec_of d ≡ Some w.exec
  table : table_at (format_at d) (codes "table") d ≡ Some w.table

is_group : (d : Data) (w : WrittenGroup) → group_of d ≡ Some w → IsGroup d w
unfolding group_of
is_group d w h =
    let known = taken _ (check (has_only (names_of group_members) d)) w h in
    let f = taken _ (format_of d) w known.2 in
    let table = taken _ (table_at f.0 (codes "table") d) w f.2 in
    let by = taken _ (texts_at (codes "by") d) w table.2 in
    let aggs = taken _ (option_and_then (list_of agg_in) (get (codes "aggs") d)) w by.2 in
    let exec = taken _ (exec_of d) w aggs.2 in
    let trace = taken _ (truth_at (codes "trace") d) w exec.2 in
    let is : f.0 ≡ format_at d = sym (format_is (format_of d) f.0 f.1) in
    subst (IsGroup d) (same_some _ w trace.2) (record {
      exec = exec.1;
      table = ap (λ g. table_at g (codes "table") d) (sym is) ∙ table.1;
    })

exec_and_table : (d : Data) (reason : Reason) → request_spot command.Group reason d ≡ None → (exec_spot reason d ≡ None) × (only_spot (format_at d) reason d ≡ None)
exec_and_table d reason none =
    let outer = neither (members_spot group_members d) (parts_spot command.Group (format_at d) reason d) none in
    let aggs = neither (inside (codes "aggs") aggs_spot d) _ outer.1 in
    neither (exec_spot reason d) (only_spot (format_at d) reason d) aggs.1

group_placed : (d : Data) (reason : Reason) → group_in d ≡ Err reason → request_spot command.Group reason d ≡ None → ⊥
unfolding group_in
group_placed d reason h none = one_table_placed d reason (group_of d) (λ w. w.table) (λ w. w.exec) _ (λ q. request_spot command.Group q d) (group_read d) (λ w is. (is_group d w is).table)
    (λ k. (exec_and_table d reason k).1) (λ w is k. exec_stands d w.exec (is_group d w is).exec (exec_and_table d why.Exec k).0) h none

-- ---- a request of a plan

-- the table of an entry
entry_there : (f : Format) (e : Data) (t : Name × List Written) → table_in f e ≡ Some t → (get (codes "table") e ≡ Some (entry_table e)) × (table_of f (entry_table e) ≡ Some t.1)
unfolding table_in
entry_there f e t h =
    let known = taken _ (check (has_only (names_of entry_members) e)) t h in
    let name = taken _ (option_and_then as_str (get (codes "name") e)) t known.2 in
    let columns = taken _ (table_at f (codes "table") e) t name.2 in
    let table = taken (table_of f) (get (codes "table") e) columns.0 columns.1 in
    let same : entry_table e ≡ table.0 = ap (λ o. unwrap_or o null) table.1 in
    (table.1 ∙ ap Some (sym same), ap (table_of f) same ∙ table.2 ∙ ap (λ (u : Name × List Written). Some u.1) (same_some (name.0, columns.0) t columns.2))

entries_written : (f : Format) (es : List Data) (ts : List (Name × List Written)) → Reads (table_in f) es ts → Reads (table_of f) (map entry_table es) (table_columns ts)
entries_written f [] [] reads = tt
entries_written f [] (t ∷ ts) reads = absurd reads
entries_written f (e ∷ es) [] reads = absurd reads
entries_written f (e ∷ es) (t ∷ ts) reads = ((entry_there f e t reads.0).1, entries_written f es ts reads.1)

entries_free : (f : Format) (q : Reason) (i : ℕ) (es : List Data) (ts : List (Name × List Written)) → Reads (table_in f) es ts → first_at (entry_spot f q) i es ≡ None → Free (table_spot f q) (map entry_table es)
entries_free f q i [] [] reads h = tt
entries_free f q i [] (t ∷ ts) reads h = absurd reads
entries_free f q i (e ∷ es) [] reads h = absurd reads
entries_free f q i (e ∷ es) (t ∷ ts) reads h =
    let both : (under (Index i) (entry_spot f q e) ≡ None) × (first_at (entry_spot f q) (i + 1) es ≡ None) = neither _ _ h in
    let parts = neither (members_spot entry_members e) (inside (codes "table") (table_spot f q) e) (not_under (Index i) (entry_spot f q e) both.0) in
    (at_member (codes "table") (table_spot f q) (get (codes "table") e) (entry_table e) (entry_there f e t reads.0).0 parts.1, entries_free f q (i + 1) es ts reads.1 both.1)

entry_has_room : (room : ℕ) (e : Data) → entry_room_spot room e ≡ None → entry_rows e ≤ room
entry_has_room room e h = of_table (get (codes "table") e) h where
  of_table : (o : Option Data) → under (Member (codes "table")) (option_and_then (table_room_spot room) o) ≡ None → table_rows (unwrap_or o null) ≤ room
  of_table None k = omega arith
  of_table (Some t) k = table_has_room room t (not_under (Member (codes "table")) _ k)

rows_of_entries : (es : List Data) → sum_by table_rows (map entry_table es) ≡ sum_by entry_rows es
rows_of_entries es = sum_by-map table_rows entry_table es

abbrev entries_at : Data → List Data
entries_at d = items_at (codes "tables") d

record IsPlan (d : Data) (w : WrittenPlan) : Type 0 where
  exec : exec_of d ≡ Some w.exec
  tables : Reads (table_in (format_at d)) (entries_at d) w.tables

is_plan : (d : Data) (w : WrittenPlan) → written_of d ≡ Some w → IsPlan d w
unfolding written_of
is_plan d w h =
    let known = taken _ (check (has_only (names_of plan_members) d)) w h in
    let f = taken _ (format_of d) w known.2 in
    let exec = taken _ (exec_of d) w f.2 in
    let push = taken _ (truth_at (codes "push") d) w exec.2 in
    let pivot = taken _ (plan_written.pivot_of d) w push.2 in
    let root = taken _ (option_and_then tree_in (get (codes "root") d)) w pivot.2 in
    let tables = taken _ (option_and_then (list_of (table_in f.0)) (get (codes "tables") d)) w root.2 in
    let is : f.0 ≡ format_at d = sym (format_is (format_of d) f.0 f.1) in
    subst (IsPlan d) (same_some _ w tables.2) (record {
      exec = exec.1;
      tables = subst (λ g. Reads (table_in g) (entries_at d) tables.0) is (items_read (table_in f.0) (get (codes "tables") d) tables.0 tables.1);
    })

exec_and_entries : (d : Data) (reason : Reason) → request_spot command.Plan reason d ≡ None → (exec_spot reason d ≡ None) × (inside (codes "tables") (entries_spot (format_at d) reason) d ≡ None)
exec_and_entries d reason none =
    let outer = neither (members_spot plan_members d) (parts_spot command.Plan (format_at d) reason d) none in
    let parts = neither (plan_spot d) _ outer.1 in
    neither (exec_spot reason d) (inside (codes "tables") (entries_spot (format_at d) reason) d) parts.1

entries_placed : (d : Data) (w : WrittenPlan) (reason : Reason) → IsPlan d w → inside (codes "tables") (entries_spot (format_at d) reason) d ≡ None → (reason ≡ why.Exec → may_stand w.exec ≡ true)
    → Placed (format_at d) (map entry_table (entries_at d)) (table_columns w.tables) w.exec reason
entries_placed d w reason k none stands =
    let f : Format = format_at d in
    let es : List Data = entries_at d in
    let at : (q : Reason) → reason ≡ q → inside (codes "tables") (entries_spot f q) d ≡ None = λ q is. subst (λ p. inside (codes "tables") (entries_spot f p) d ≡ None) is none in
    record {
      written = entries_written f es w.tables k.tables;
      value = λ is. entries_free f why.Value 0 es w.tables k.tables (inside_items (codes "tables") (first_at (entry_spot f why.Value) 0) d refl (at why.Value is));
      room = λ is.
          let few : sum_by entry_rows es ≤ MAX_RUN_VALUES = in_room entry_rows entry_room_spot entry_has_room MAX_RUN_VALUES 0 es (inside_items (codes "tables") (first_in_room entry_rows entry_room_spot MAX_RUN_VALUES 0) d refl (at why.Rows is)) in
          omega (arith, rows_of_entries es);
      stands = stands;
      heights = λ is. entries_free f why.Heights 0 es w.tables k.tables (inside_items (codes "tables") (first_at (entry_spot f why.Heights) 0) d refl (at why.Heights is));
      name = λ is. entries_free f why.Name 0 es w.tables k.tables (inside_items (codes "tables") (first_at (entry_spot f why.Name) 0) d refl (at why.Name is));
      flag = λ is. entries_free f why.Flag 0 es w.tables k.tables (inside_items (codes "tables") (first_at (entry_spot f why.Flag) 0) d refl (at why.Flag is));
    }

plan_placed : (d : Data) (reason : Reason) → plan_in d ≡ Err reason → request_spot command.Plan reason d ≡ None → ⊥
unfolding plan_in
plan_placed d reason h none =
    let at : (q : Reason) → reason ≡ q → request_spot command.Plan q d ≡ None = λ q is. subst (λ p. request_spot command.Plan p d ≡ None) is none in
    value_stage (written_of d) why.Shape reason _ h
    (λ e is. not_none _ e (plan_read d (at why.Shape is)))
    (λ w written more.
    let k : IsPlan d w = is_plan d w written in
    tables_placed (format_at d) (map entry_table (entries_at d)) (table_columns w.tables) w.exec reason
    (entries_placed d w reason k (exec_and_entries d reason none).1 (λ is. exec_stands d w.exec k.exec (exec_and_entries d why.Exec (at why.Exec is)).0))
    (before_answer _ reason _ more))

-- ---- a request to keep a join

sides_and_steps : (d : Data) (reason : Reason) → request_spot command.Delta reason d ≡ None → (sides_spot (format_at d) reason d ≡ None) × (inside (codes "steps") (steps_spot reason d) d ≡ None)
sides_and_steps d reason none =
    let outer = neither (members_spot delta_members d) (parts_spot command.Delta (format_at d) reason d) none in
    neither (sides_spot (format_at d) reason d) (inside (codes "steps") (steps_spot reason d) d) outer.1

delta_placed : (d : Data) (reason : Reason) → delta_in d ≡ Err reason → request_spot command.Delta reason d ≡ None → ⊥
unfolding delta_in
delta_placed d reason h none =
    let at : (q : Reason) → reason ≡ q → request_spot command.Delta q d ≡ None = λ q is. subst (λ p. request_spot command.Delta p d ≡ None) is none in
    value_stage (delta_of d) why.Shape reason _ h
    (λ e is. not_none _ e (delta_read d (at why.Shape is)))
    (λ w written more.
    let k : IsDelta d w = is_delta d w written in
    let left = table_there (format_at d) (codes "left") d w.left k.left in
    let right = table_there (format_at d) (codes "right") d w.right k.right in
    value_stage (steps_in w.left w.right w.steps) why.Value reason _ more
    (λ e is. not_none _ e (steps_made d w k (sides_and_steps d why.Value (at why.Value is)).1))
    (λ steps read tables. tables_placed (format_at d) (left.0 ∷ right.0 ∷ []) (w.left ∷ w.right ∷ []) standard_exec reason
    (sides_placed (format_at d) d w.left w.right standard_exec reason left right (sides_and_steps d reason none).0 (λ _. refl))
    (before_answer _ reason _ tables)))

-- ---- all commands

refused : {A : Type 0} (r : Result A Reason) (reason : Reason) → refusal r ≡ Some reason → r ≡ Err reason
refused (Ok x) reason h = absurd (cc)
refused (Err e) reason h = cc

pub is_placed : (c : Command) (bytes : List ℕ) (d : Data) (reason : Reason) → value_of bytes ≡ Ok d → reason_of c bytes ≡ Some reason → request_spot c reason d ≡ None → ⊥
unfolding join_request_of unpivot_request_of dummies_request_of pivot_request_of plan_request_of delta_request_of group_request_of
is_placed command.Join bytes d reason is h = join_placed d reason (ap (λ v. v >>= join_in) (sym is) ∙ refused (value_of bytes >>= join_in) reason h)
is_placed command.Unpivot bytes d reason is h = unpivot_placed d reason (ap (λ v. v >>= unpivot_in) (sym is) ∙ refused (value_of bytes >>= unpivot_in) reason h)
is_placed command.Dummies bytes d reason is h = dummies_placed d reason (ap (λ v. v >>= dummies_in) (sym is) ∙ refused (value_of bytes >>= dummies_in) reason h)
is_placed command.Pivot bytes d reason is h = pivot_placed d reason (ap (λ v. v >>= pivot_in) (sym is) ∙ refused (value_of bytes >>= pivot_in) reason h)
is_placed command.Plan bytes d reason is h = plan_placed d reason (ap (λ v. v >>= plan_in) (sym is) ∙ refused (value_of bytes >>= plan_in) reason h)
is_placed command.Delta bytes d reason is h = delta_placed d reason (ap (λ v. v >>= delta_in) (sym is) ∙ refused (value_of bytes >>= delta_in) reason h)
is_placed command.Group bytes d reason is h = group_placed d reason (ap (λ v. v >>= group_in) (sym is) ∙ refused (value_of bytes >>= group_in) reason h)
