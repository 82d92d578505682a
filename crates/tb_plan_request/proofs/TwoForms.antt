-- Requests of a plan in both formats are read alike.
use Rattle.std.proofs.Common.{◌≡◌, ◌∙◌, ℕ, List, [], ◌∷◌, map, Bool, true, false, Option, Some, None, option_and_then, option_map, codes, refl, sym, ap}
use Rattle.std.specs.List.{zip}
use Rattle.serde_json.specs.Data.{array, boolean, Data, item, Items, Members, no_items, null, number, object, string}
use Rattle.serde_json.specs.Find.{as_bool, as_str, get_member}
use Rattle.tb_value.specs.Promise.Names.{Name}
use Rattle.tb_pool.specs.Promise.ExecView.{ExecView}
use Rattle.tb_node.specs.Promise.Trees.{Tree}
use Rattle.tb_plan.specs.Promise.Outcome.{Pivot}
use Rattle.tb_json.specs.Promise.Lists.{◌>>=◌, are_among, check, each, list_from, list_of}
use Rattle.tb_request.specs.declared.shape.Format.{Format}
use Rattle.tb_request.specs.declared.shape.Format.TheVariants.{Chunks, Runs}
use Rattle.tb_request.specs.Forms.{each_item, each_member}
use Rattle.tb_request.specs.Promise.Members.{names_of}
use Rattle.tb_request.specs.Promise.Written.{format_of, optional_member, plan_of, standard_exec, table_at, Written}
use Rattle.tb_request.proofs.EachRun.{each_goes}
use Rattle.tb_request.proofs.Expanded.{member_out, names_out, written_out}
use Rattle.tb_request.proofs.SameShape.{format_out, same_member, side_out, some_is}
use Rattle.tb_request.proofs.TwoForms.{request_same, tables_out}
use Rattle.tb_plan_request.specs.Forms.{expand_entry, expand_named, expand_plan, expand_plan_member, expand_tables}
use Rattle.tb_plan_request.specs.Laws.{TwoForms}
use Rattle.tb_plan_request.specs.Promise.Members.{entry_members, plan_members}
use Rattle.tb_plan_request.specs.Promise.Reading.{plan_in, table_columns, table_names}
use Rattle.tb_plan_request.specs.Promise.Written.{WrittenPlan, pivot_in, table_in, tree_in, written_of}
use Rattle.tb_plan_request.proofs.PlanRead.{made as plan_made}

-- ---- a table under its name

abbrev Named : Type 0
Named = Name × List Written

abbrev named_out : Named → Named
named_out t = (t.0, map written_out t.1)

abbrev entry_with : Bool → Option Name → Option (List Written) → Option Named
entry_with known name columns = do
  k ← check known
  n ← name
  cs ← columns
  Some (n, cs)

entry_goes : (known : Bool) (name : Option Name) (columns columns' : Option (List Written)) (t : Named) → ((ws : List Written) → columns ≡ Some ws → columns' ≡ Some (map written_out ws)) → entry_with known name columns ≡ Some t → entry_with known name columns' ≡ Some (named_out t)
entry_goes false name columns columns' t h e = absurd (cc)
entry_goes true None columns columns' t h e = absurd (cc)
entry_goes true (Some n) None columns' t h e = absurd (cc)
entry_goes true (Some n) (Some ws) columns' t h e =
    ap (entry_with true (Some n)) (h ws refl)
    ∙ ap (λ (u : Named). Some (named_out u)) (some_is (n, ws) t e)

abbrev entry_names : List Name
entry_names = names_of entry_members

entry_out : (d : Data) (t : Named) → table_in Runs d ≡ Some t → table_in Chunks (expand_entry d) ≡ Some (named_out t)
unfolding table_in
entry_out null t e = absurd (cc)
entry_out (boolean b) t e = absurd (cc)
entry_out (number n) t e = absurd (cc)
entry_out (string s) t e = absurd (cc)
entry_out (array ds) t e = absurd (cc)
entry_out (object ms) t e =
    (λ i. entry_with (names_out expand_named entry_names ms i) (same_member expand_named (codes "name") ms (λ d. refl) i >>= as_str) (table_at Chunks (codes "table") (expand_entry (object ms))))
    ∙ entry_goes (are_among entry_names ms) (get_member (codes "name") ms >>= as_str) (table_at Runs (codes "table") (object ms)) (table_at Chunks (codes "table") (expand_entry (object ms))) t (side_out expand_named (codes "table") ms (λ d. refl)) e

entries_out : (ds : Items) → list_from (each_item expand_entry ds) ≡ map expand_entry (list_from ds)
entries_out no_items = refl
entries_out (item d ds) = ap (λ es. expand_entry d ∷ es) (entries_out ds)

entry_list_out : (d : Data) (ts : List Named) → list_of (table_in Runs) d ≡ Some ts → list_of (table_in Chunks) (expand_tables d) ≡ Some (map named_out ts)
entry_list_out null ts e = absurd (cc)
entry_list_out (boolean b) ts e = absurd (cc)
entry_list_out (number n) ts e = absurd (cc)
entry_list_out (string s) ts e = absurd (cc)
entry_list_out (array ds) ts e = ap (each (table_in Chunks)) (entries_out ds) ∙ each_goes expand_entry named_out (table_in Runs) (table_in Chunks) entry_out (list_from ds) ts e
entry_list_out (object ms) ts e = absurd (cc)

-- ---- the members of a request

abbrev plan_out : WrittenPlan → WrittenPlan
plan_out w = record w { tables = map named_out w.tables }

abbrev plan_with : Bool → Option Format → Option ExecView → Option Bool → Option (Option Pivot) → Option Tree → (Format → Option (List Named)) → Option WrittenPlan
plan_with known format exec push pivot root tables = do
  k ← check known
  f ← format
  e ← exec
  p ← push
  v ← pivot
  r ← root
  ts ← tables f
  Some (record { tables = ts; root = r; pivot = v; push = p; exec = e })

plan_goes : (known : Bool) (exec : Option ExecView) (push : Option Bool) (pivot : Option (Option Pivot)) (root : Option Tree) (tables tables' : Format → Option (List Named)) (w : WrittenPlan) → ((ts : List Named) → tables Runs ≡ Some ts → tables' Chunks ≡ Some (map named_out ts)) → plan_with known (Some Runs) exec push pivot root tables ≡ Some w → plan_with known (Some Chunks) exec push pivot root tables' ≡ Some (plan_out w)
plan_goes false exec push pivot root tables tables' w h x = absurd (cc)
plan_goes true None push pivot root tables tables' w h x = absurd (cc)
plan_goes true (Some e) None pivot root tables tables' w h x = absurd (cc)
plan_goes true (Some e) (Some p) None root tables tables' w h x = absurd (cc)
plan_goes true (Some e) (Some p) (Some v) None tables tables' w h x = absurd (cc)
plan_goes true (Some e) (Some p) (Some v) (Some r) tables tables' w h x = made (tables Runs) refl x where
  with_tables : Option (List Named) → Option WrittenPlan
  with_tables o = o >>= λ ts. Some (record { tables = ts; root = r; pivot = v; push = p; exec = e })

  made : (o : Option (List Named)) → tables Runs ≡ o → with_tables o ≡ Some w → with_tables (tables' Chunks) ≡ Some (plan_out w)
  made None is y = absurd (cc)
  made (Some ts) is y = ap with_tables (h ts is) ∙ ap (λ (u : WrittenPlan). Some (plan_out u)) (some_is (record { tables = ts; root = r; pivot = v; push = p; exec = e }) w y)

abbrev tables_at : Format → Data → Option (List Named)
tables_at f (object ms) = get_member (codes "tables") ms >>= list_of (table_in f)
tables_at f _ = None

tables_at_out : (ms : Members) (ts : List Named) → tables_at Runs (object ms) ≡ Some ts → tables_at Chunks (expand_plan (object ms)) ≡ Some (map named_out ts)
tables_at_out ms ts e = ap (option_and_then (list_of (table_in Chunks))) (member_out expand_plan_member (codes "tables") ms) ∙ at (get_member (codes "tables") ms) e where
  at : (o : Option Data) → (o >>= list_of (table_in Runs)) ≡ Some ts → (option_map (expand_plan_member (codes "tables")) o >>= list_of (table_in Chunks)) ≡ Some (map named_out ts)
  at None e = cc
  at (Some d) e = entry_list_out d ts e

abbrev plan_names : List Name
plan_names = names_of plan_members

-- by the values of the members
abbrev plan_by : Members → Option Format → Option WrittenPlan
plan_by ms format =
    plan_with (are_among plan_names ms) format (optional_member standard_exec plan_of (get_member (codes "exec") ms)) (optional_member false as_bool (get_member (codes "push") ms))
    (optional_member None (λ m. option_map Some (pivot_in m)) (get_member (codes "pivot") ms)) (get_member (codes "root") ms >>= tree_in) (λ f. tables_at f (object ms))

plan_of_out : (d : Data) (w : WrittenPlan) → format_of d ≡ Some Runs → written_of d ≡ Some w → written_of (expand_plan d) ≡ Some (plan_out w)
unfolding written_of
plan_of_out null w e x = absurd (cc)
plan_of_out (boolean b) w e x = absurd (cc)
plan_of_out (number n) w e x = absurd (cc)
plan_of_out (string s) w e x = absurd (cc)
plan_of_out (array ds) w e x = absurd (cc)
plan_of_out (object ms) w e x =
    (λ i. plan_with (names_out expand_plan_member plan_names ms i)
    (format_out expand_plan_member ms (λ d. refl) e i)
    (optional_member standard_exec plan_of (same_member expand_plan_member (codes "exec") ms (λ d. refl) i))
    (optional_member false as_bool (same_member expand_plan_member (codes "push") ms (λ d. refl) i))
    (optional_member None (λ m. option_map Some (pivot_in m)) (same_member expand_plan_member (codes "pivot") ms (λ d. refl) i))
    (same_member expand_plan_member (codes "root") ms (λ d. refl) i >>= tree_in)
    (λ f. tables_at f (expand_plan (object ms))))
    ∙ plan_goes (are_among plan_names ms) (optional_member standard_exec plan_of (get_member (codes "exec") ms)) (optional_member false as_bool (get_member (codes "push") ms))
    (optional_member None (λ m. option_map Some (pivot_in m)) (get_member (codes "pivot") ms)) (get_member (codes "root") ms >>= tree_in)
    (λ f. tables_at f (object ms)) (λ f. tables_at f (expand_plan (object ms))) w (tables_at_out ms)
    (ap (plan_by ms) (sym e) ∙ x)

-- ---- a request

columns_are : (ts : List Named) → table_columns (map named_out ts) ≡ tables_out (table_columns ts)
columns_are [] = refl
columns_are (t ∷ ts) = ap (λ cs. map written_out t.1 ∷ cs) (columns_are ts)

names_are : (ts : List Named) → table_names (map named_out ts) ≡ table_names ts
names_are [] = refl
names_are (t ∷ ts) = ap (λ ns. t.0 ∷ ns) (names_are ts)

pub plan_same : TwoForms
unfolding plan_in
plan_same d e p =
    request_same (λ (w : WrittenPlan). table_columns w.tables) (λ w. w.exec) plan_made plan_out (λ w. columns_are w.tables) (λ w. refl)
    (λ w ts i. record { tables = zip (names_are w.tables i) ts; root = w.root; pivot = w.pivot; push = w.push; exec = w.exec })
    (written_of d) (written_of (expand_plan d)) (λ w. plan_of_out d w e) p
