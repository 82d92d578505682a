-- A request is read, where no spot is found for its shape.
use Rattle.std.proofs.Common.{◌≡◌, ℕ, List, true, false, Option, Some, None, codes, refl, ap, sym, ◌∙◌}
use Rattle.std.specs.Prelude.{is_some, option_and_then, option_map, unwrap_or}
use Rattle.serde_json.specs.Data.{Data}
use Rattle.serde_json.specs.Find.{as_bool, as_str, get}
use Rattle.tb_value.specs.Promise.Names.{Name}
use Rattle.tb_json.specs.Promise.Lists.{as_list, has_only, list_of}
use Rattle.tb_request.specs.declared.request.Reason.TheVariants as why
use Rattle.tb_request.specs.declared.shape.Format.{Format}
use Rattle.tb_request.specs.declared.shape.Format.TheVariants.{Chunks}
use Rattle.tb_request.specs.declared.known.Form.TheVariants as form
use Rattle.tb_request.specs.declared.known.Word.TheVariants as word
use Rattle.tb_request.specs.Promise.Members.{dummies_members, join_members, names_of, needed_member, pivot_members, possible_member, unpivot_members}
use Rattle.tb_request.specs.Promise.Written.{agg_named, agg_of, args_of, dummies_of, exec_of, format_numbered, format_of, join_of, pivot_of, table_at, table_of, text_at, texts_at, texts_if_at, truth_at, unpivot_of, whole_of}
use Rattle.tb_why.specs.declared.spot.Command.TheVariants as command
use Rattle.tb_why.specs.Nodes.{node_spot}
use Rattle.tb_why.specs.Spots.{inside}
use Rattle.tb_plan_request.specs.Promise.Members.{entry_members, pivot_args_members, plan_members}
use Rattle.tb_plan_request.specs.Promise.Written.{pivot_in, table_in, tree_in, written_of}
use Rattle.tb_plan_request.specs.Promise.Written as plan_written
use Rattle.tb_group_request.specs.Promise.Members.{agg_members, group_members}
use Rattle.tb_group_request.specs.Promise.Written.{agg_in, group_of}
use Rattle.tb_why.specs.Arguments.{args_spot}
use Rattle.tb_why.specs.Members.{fault_of, members_spot}
use Rattle.tb_why.specs.Columns.{table_spot}
use Rattle.tb_why.specs.Requests.{aggs_spot, entries_spot, entry_spot, exec_known, exec_spot, format_at, only_spot, parts_spot, plan_spot, request_spot, sides_spot}
use Rattle.tb_why.proofs.Unfound.{EachFits, Fits, Given, at_member, each_of_them, fits, given, list_reads, mapped, needed_reads, neither, optional_reads, then_some, two_steps, word_reads}
use Rattle.tb_why.proofs.ReadNodes.{node_read}
use Rattle.tb_why.proofs.ReadParts.{args_read, exec_read, name_read, table_read}

-- ---- members of all requests

pub format_is : (o : Option Format) (f : Format) → o ≡ Some f → unwrap_or o Chunks ≡ f
format_is o f e = ap (λ p. unwrap_or p Chunks) e

pub format_read : (d : Data) → fault_of (possible_member (codes "format") form.Format) (get (codes "format") d) ≡ None → Given (format_of d)
format_read d h = given (format_of d) (optional_reads (codes "format") form.Format Chunks (λ m. option_and_then format_numbered (whole_of m)) (get (codes "format") d) h (λ m _ some. some))

pub truth_read : (n : Name) (d : Data) → fault_of (possible_member n form.Truth) (get n d) ≡ None → Given (truth_at n d)
truth_read n d h = given (truth_at n d) (optional_reads n form.Truth false as_bool (get n d) h (λ m _ some. some))

text_read : (n : Name) (d : Data) → fault_of (possible_member n form.Text) (get n d) ≡ None → Given (text_at n d)
text_read n d h = given (text_at n d) (optional_reads n form.Text None (λ m. option_and_then (λ s. Some (Some s)) (as_str m)) (get n d) h (λ m _ some. then_some Some (as_str m) some))

pub texts_read : (n : Name) (d : Data) → fault_of (needed_member n form.Texts) (get n d) ≡ None → Given (texts_at n d)
texts_read n d h = given (texts_at n d) (needed_reads n form.Texts (list_of as_str) (get n d) h (λ m _ some. some))

texts_if_read : (n : Name) (d : Data) → fault_of (possible_member n form.Texts) (get n d) ≡ None → Given (texts_if_at n d)
texts_if_read n d h = given (texts_if_at n d) (optional_reads n form.Texts None (λ m. option_map Some (list_of as_str m)) (get n d) h (λ m _ some. mapped Some (list_of as_str m) some))

agg_read : (d : Data) → fault_of (possible_member (codes "agg") (form.Word word.Aggregate)) (get (codes "agg") d) ≡ None → Given (agg_of d)
agg_read d h = given (agg_of d) (optional_reads (codes "agg") (form.Word word.Aggregate) None (λ m. option_and_then (λ s. option_map Some (agg_named s)) (as_str m)) (get (codes "agg") d) h (λ m _ is. agg_word (as_str m) is)) where
  agg_word : (o : Option (List ℕ)) → unwrap_or (option_map (λ s. is_some (agg_named s)) o) false ≡ true → is_some (option_and_then (λ s. option_map Some (agg_named s)) o) ≡ true
  agg_word None is = absurd (cc)
  agg_word (Some s) is = mapped Some (agg_named s) is

pub side_read : (n : Name) (d : Data) (f : Format) → f ≡ format_at d → fault_of (needed_member n form.Object) (get n d) ≡ None → inside n (table_spot (format_at d) why.Shape) d ≡ None → Given (table_at f n d)
side_read n d f is k h = given (table_at f n d) (needed_reads n form.Object (table_of f) (get n d) k (λ m e _. table_read f m (at_member n (table_spot f why.Shape) (get n d) m e (ap (λ g. inside n (table_spot g why.Shape) d) is ∙ h))))

-- ---- a request to join

join_given : (d : Data) → has_only (names_of join_members) d ≡ true → Given (option_and_then args_of (get (codes "args") d)) → Given (exec_of d) → Given (truth_at (codes "trace") d) → (f : Given (format_of d))
    → Given (table_at f.0 (codes "left") d) → Given (texts_at (codes "left_on") d) → Given (table_at f.0 (codes "right") d) → Given (texts_at (codes "right_on") d) → is_some (join_of d) ≡ true
unfolding join_of
join_given d only args exec trace f left left_on right right_on = rw (only, args.1, exec.1, trace.1, f.1, left.1, left_on.1, right.1, right_on.1) refl

pub join_read : (d : Data) → request_spot command.Join why.Shape d ≡ None → is_some (join_of d) ≡ true
join_read d h =
    let outer = neither (members_spot join_members d) (parts_spot command.Join (format_at d) why.Shape d) h in
    let k : Fits join_members d = fits join_members d outer.0 in
    let m : EachFits join_members d = each_of_them join_members d k.members in
    let args = neither (inside (codes "args") args_spot d) _ outer.1 in
    let exec = neither (exec_spot why.Shape d) (sides_spot (format_at d) why.Shape d) args.1 in
    let sides = neither (inside (codes "left") (table_spot (format_at d) why.Shape) d) (inside (codes "right") (table_spot (format_at d) why.Shape) d) exec.1 in
    let f : Given (format_of d) = format_read d m.1.1.0 in
    let is : f.0 ≡ format_at d = sym (format_is (format_of d) f.0 f.1) in
    join_given d k.only
    (given _ (needed_reads (codes "args") form.Object args_of (get (codes "args") d) m.0 (λ a e _. args_read a (at_member (codes "args") args_spot (get (codes "args") d) a e args.0))))
    (given _ (exec_read d m.1.0 exec.0))
    (truth_read (codes "trace") d m.1.1.1.1.1.1.1.0)
    f
    (side_read (codes "left") d f.0 is m.1.1.1.0 sides.0)
    (texts_read (codes "left_on") d m.1.1.1.1.0)
    (side_read (codes "right") d f.0 is m.1.1.1.1.1.0 sides.1)
    (texts_read (codes "right_on") d m.1.1.1.1.1.1.0)

-- ---- requests of one table

unpivot_given : (d : Data) → has_only (names_of unpivot_members) d ≡ true → (f : Given (format_of d)) → Given (table_at f.0 (codes "table") d) → Given (texts_at (codes "on") d) → Given (texts_at (codes "index") d)
    → Given (text_at (codes "variable_name") d) → Given (text_at (codes "value_name") d) → is_some (unpivot_of d) ≡ true
unfolding unpivot_of
unpivot_given d only f table on index variable_name value_name = rw (only, f.1, table.1, on.1, index.1, variable_name.1, value_name.1) refl

pub unpivot_read : (d : Data) → request_spot command.Unpivot why.Shape d ≡ None → is_some (unpivot_of d) ≡ true
unpivot_read d h =
    let outer = neither (members_spot unpivot_members d) (parts_spot command.Unpivot (format_at d) why.Shape d) h in
    let k : Fits unpivot_members d = fits unpivot_members d outer.0 in
    let m : EachFits unpivot_members d = each_of_them unpivot_members d k.members in
    let f : Given (format_of d) = format_read d m.0 in
    unpivot_given d k.only f
    (side_read (codes "table") d f.0 (sym (format_is (format_of d) f.0 f.1)) m.1.1.1.0 outer.1)
    (texts_read (codes "on") d m.1.1.0)
    (texts_read (codes "index") d m.1.0)
    (text_read (codes "variable_name") d m.1.1.1.1.1.0)
    (text_read (codes "value_name") d m.1.1.1.1.0)

dummies_given : (d : Data) → has_only (names_of dummies_members) d ≡ true → (f : Given (format_of d)) → Given (table_at f.0 (codes "table") d) → Given (texts_if_at (codes "columns") d) → Given (text_at (codes "separator") d)
    → Given (truth_at (codes "drop_first") d) → is_some (dummies_of d) ≡ true
unfolding dummies_of
dummies_given d only f table columns separator drop_first = rw (only, f.1, table.1, columns.1, separator.1, drop_first.1) refl

pub dummies_read : (d : Data) → request_spot command.Dummies why.Shape d ≡ None → is_some (dummies_of d) ≡ true
dummies_read d h =
    let outer = neither (members_spot dummies_members d) (parts_spot command.Dummies (format_at d) why.Shape d) h in
    let k : Fits dummies_members d = fits dummies_members d outer.0 in
    let m : EachFits dummies_members d = each_of_them dummies_members d k.members in
    let f : Given (format_of d) = format_read d m.1.1.0 in
    dummies_given d k.only f
    (side_read (codes "table") d f.0 (sym (format_is (format_of d) f.0 f.1)) m.1.1.1.1.0 outer.1)
    (texts_if_read (codes "columns") d m.0)
    (text_read (codes "separator") d m.1.1.1.0)
    (truth_read (codes "drop_first") d m.1.0)

pivot_given : (d : Data) → has_only (names_of pivot_members) d ≡ true → (f : Given (format_of d)) → Given (table_at f.0 (codes "table") d) → Given (texts_at (codes "on") d) → Given (texts_if_at (codes "index") d)
    → Given (texts_if_at (codes "values") d) → Given (truth_at (codes "sort_columns") d) → Given (agg_of d) → Given (text_at (codes "separator") d) → is_some (pivot_of d) ≡ true
unfolding pivot_of
pivot_given d only f table on index values sort_columns agg separator = rw (only, f.1, table.1, on.1, index.1, values.1, sort_columns.1, agg.1, separator.1) refl

pub pivot_read : (d : Data) → request_spot command.Pivot why.Shape d ≡ None → is_some (pivot_of d) ≡ true
pivot_read d h =
    let outer = neither (members_spot pivot_members d) (parts_spot command.Pivot (format_at d) why.Shape d) h in
    let k : Fits pivot_members d = fits pivot_members d outer.0 in
    let m : EachFits pivot_members d = each_of_them pivot_members d k.members in
    let f : Given (format_of d) = format_read d m.1.0 in
    pivot_given d k.only f
    (side_read (codes "table") d f.0 (sym (format_is (format_of d) f.0 f.1)) m.1.1.1.1.1.1.0 outer.1)
    (texts_read (codes "on") d m.1.1.1.0)
    (texts_if_read (codes "index") d m.1.1.0)
    (texts_if_read (codes "values") d m.1.1.1.1.1.1.1.0)
    (truth_read (codes "sort_columns") d m.1.1.1.1.1.0)
    (agg_read d m.0)
    (text_read (codes "separator") d m.1.1.1.1.0)

-- ---- a request to group a table

agg_in_read : (d : Data) → members_spot agg_members d ≡ None → is_some (agg_in d) ≡ true
unfolding agg_in
agg_in_read d h =
    let k : Fits agg_members d = fits agg_members d h in
    let m : EachFits agg_members d = each_of_them agg_members d k.members in
    let agg : Given (option_and_then agg_named (option_and_then as_str (get (codes "agg") d))) = given _ (two_steps as_str agg_named (get (codes "agg") d)
    (needed_reads (codes "agg") (form.Word word.Aggregate) (λ a. option_and_then agg_named (as_str a)) (get (codes "agg") d) m.0 (λ a _. word_reads agg_named (as_str a)))) in
    let column = name_read (codes "column") d m.1.0 in
    let name = name_read (codes "name") d m.1.1.0 in
    rw (k.only, agg.1, column.1, name.1) refl

group_given : (d : Data) → has_only (names_of group_members) d ≡ true → (f : Given (format_of d)) → Given (table_at f.0 (codes "table") d) → Given (texts_at (codes "by") d) → Given (option_and_then (list_of agg_in) (get (codes "aggs") d))
    → Given (exec_of d) → Given (truth_at (codes "trace") d) → is_some (group_of d) ≡ true
unfolding group_of
group_given d only f table by aggs exec trace = rw (only, f.1, table.1, by.1, aggs.1, exec.1, trace.1) refl

pub group_read : (d : Data) → request_spot command.Group why.Shape d ≡ None → is_some (group_of d) ≡ true
group_read d h =
    let outer = neither (members_spot group_members d) (parts_spot command.Group (format_at d) why.Shape d) h in
    let k : Fits group_members d = fits group_members d outer.0 in
    let m : EachFits group_members d = each_of_them group_members d k.members in
    let aggs = neither (inside (codes "aggs") aggs_spot d) _ outer.1 in
    let rest = neither (exec_spot why.Shape d) (only_spot (format_at d) why.Shape d) aggs.1 in
    let f : Given (format_of d) = format_read d m.1.1.1.0 in
    group_given d k.only f
    (side_read (codes "table") d f.0 (sym (format_is (format_of d) f.0 f.1)) m.1.1.1.1.0 rest.1)
    (texts_read (codes "by") d m.1.0)
    (given _ (needed_reads (codes "aggs") form.Values (list_of agg_in) (get (codes "aggs") d) m.0
    (λ a e some. list_reads agg_in (members_spot agg_members) (as_list a) some (at_member (codes "aggs") aggs_spot (get (codes "aggs") d) a e aggs.0) agg_in_read)))
    (given _ (exec_read d m.1.1.0 rest.0))
    (truth_read (codes "trace") d m.1.1.1.1.1.0)

-- ---- a request of a plan

pivot_in_read : (d : Data) → members_spot pivot_args_members d ≡ None → is_some (pivot_in d) ≡ true
unfolding pivot_in
pivot_in_read d h =
    let k : Fits pivot_args_members d = fits pivot_args_members d h in
    let m : EachFits pivot_args_members d = each_of_them pivot_args_members d k.members in
    let agg = agg_read d m.0 in
    let index = texts_if_read (codes "index") d m.1.0 in
    let on = texts_read (codes "on") d m.1.1.0 in
    let separator = text_read (codes "separator") d m.1.1.1.0 in
    let sort_columns = truth_read (codes "sort_columns") d m.1.1.1.1.0 in
    let values = texts_if_read (codes "values") d m.1.1.1.1.1.0 in
    rw (k.only, on.1, index.1, values.1, sort_columns.1, agg.1, separator.1) refl

entry_read : (f : Format) (d : Data) → entry_spot f why.Shape d ≡ None → is_some (table_in f d) ≡ true
unfolding table_in
entry_read f d h =
    let parts = neither (members_spot entry_members d) (inside (codes "table") (table_spot f why.Shape) d) h in
    let k : Fits entry_members d = fits entry_members d parts.0 in
    let m : EachFits entry_members d = each_of_them entry_members d k.members in
    let name = name_read (codes "name") d m.0 in
    let table : Given (table_at f (codes "table") d) = given _ (needed_reads (codes "table") form.Object (table_of f) (get (codes "table") d) m.1.0
    (λ t e _. table_read f t (at_member (codes "table") (table_spot f why.Shape) (get (codes "table") d) t e parts.1))) in
    rw (k.only, name.1, table.1) refl

plan_given : (d : Data) → has_only (names_of plan_members) d ≡ true → (f : Given (format_of d)) → Given (exec_of d) → Given (truth_at (codes "push") d) → Given (plan_written.pivot_of d)
    → Given (option_and_then tree_in (get (codes "root") d)) → Given (option_and_then (list_of (table_in f.0)) (get (codes "tables") d)) → is_some (written_of d) ≡ true
unfolding written_of
plan_given d only f exec push pivot root tables = rw (only, f.1, exec.1, push.1, pivot.1, root.1, tables.1) refl

pub plan_read : (d : Data) → request_spot command.Plan why.Shape d ≡ None → is_some (written_of d) ≡ true
plan_read d h =
    let outer = neither (members_spot plan_members d) (parts_spot command.Plan (format_at d) why.Shape d) h in
    let k : Fits plan_members d = fits plan_members d outer.0 in
    let m : EachFits plan_members d = each_of_them plan_members d k.members in
    let parts = neither (plan_spot d) _ outer.1 in
    let plan = neither (inside (codes "pivot") (members_spot pivot_args_members) d) (inside (codes "root") node_spot d) parts.0 in
    let rest = neither (exec_spot why.Shape d) (inside (codes "tables") (entries_spot (format_at d) why.Shape) d) parts.1 in
    let f : Given (format_of d) = format_read d m.1.0 in
    let is : f.0 ≡ format_at d = sym (format_is (format_of d) f.0 f.1) in
    let entries : inside (codes "tables") (entries_spot f.0 why.Shape) d ≡ None = ap (λ g. inside (codes "tables") (entries_spot g why.Shape) d) is ∙ rest.1 in
    plan_given d k.only f
    (given _ (exec_read d m.0 rest.0))
    (truth_read (codes "push") d m.1.1.1.0)
    (given (plan_written.pivot_of d) (optional_reads (codes "pivot") form.Object None (λ p. option_map Some (pivot_in p)) (get (codes "pivot") d) m.1.1.0
    (λ p e _. mapped Some (pivot_in p) (pivot_in_read p (at_member (codes "pivot") (members_spot pivot_args_members) (get (codes "pivot") d) p e plan.0)))))
    (given _ (needed_reads (codes "root") form.Object tree_in (get (codes "root") d) m.1.1.1.1.0 (λ r e _. node_read r (at_member (codes "root") node_spot (get (codes "root") d) r e plan.1))))
    (given _ (needed_reads (codes "tables") form.Values (list_of (table_in f.0)) (get (codes "tables") d) m.1.1.1.1.1.0
    (λ t e some. list_reads (table_in f.0) (entry_spot f.0 why.Shape) (as_list t) some (at_member (codes "tables") (entries_spot f.0 why.Shape) (get (codes "tables") d) t e entries) (entry_read f.0))))
