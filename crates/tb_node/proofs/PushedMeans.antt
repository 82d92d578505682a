-- A plan means with its filters pushed what it means without.
use Rattle.std.proofs.Common.{◌≡◌, ℕ, Bool, true, false, not, ◌&&◌, if◌then◌else◌, List, ◌++◌, length, get_or, map, refl, ap, ap₂, sym, ◌∙◌, subst, Option, Some, None, ⊎_elim}
use Rattle.std.specs.Prelude.{filter, option_map, is_none, AllPairs, ◌≢◌}
use Rattle.std.specs.Option.{ForSome}
use Rattle.std.specs.Cmp.{first_so, second_so}
use Rattle.std.proofs.lemmas.Bool.{cases_Bool}
use Rattle.std.proofs.lemmas.List.{length-map, map-append}
use Rattle.std.proofs.lemmas.List.Elements.{All-map}
use Rattle.tb_value.specs.Promise.Datum.{null}
use Rattle.tb_value.specs.Promise.Kind.{Kind}
use Rattle.tb_value.specs.Promise.Names.{Name}
use Rattle.tb_value.specs.Promise.Typed.{HasType}
use Rattle.tb_value.proofs.Loops.{map-map}
use Rattle.tb_frame.specs.declared.args.JoinArgs.{JoinArgs}
use Rattle.tb_frame.specs.declared.args.JoinType.{JoinType}
use Rattle.tb_frame.specs.declared.args.JoinType.TheVariants.{Inner, Left, Right, Full, Semi, Anti}
use Rattle.tb_frame.specs.declared.args.JoinValidation.{JoinValidation}
use Rattle.tb_frame.specs.declared.args.JoinValidation.TheVariants.{ManyToMany, ManyToOne, OneToMany, OneToOne}
use Rattle.tb_frame.specs.Promise.Join.{IsAnswer, Request, by_names, column_named}
use Rattle.tb_frame.specs.Naming.{answer_names}
use Rattle.tb_frame.specs.Promise.Naming.{answer_fields, is_among, keeps_left, left_names, right_name, shows_right, Field}
use Rattle.tb_frame.specs.Promise.Refusal.{join_refusal}
use Rattle.tb_frame.specs.Promise.Table.{IsTable, IsTyped, Table, TableColumn, height, names_of, schema_of}
use Rattle.tb_frame.proofs.Frames.{level_height}
use Rattle.tb_frame.proofs.Selected.{unnamed-is}
use Rattle.tb_frame.proofs.Taking.{at_place}
use Rattle.tb_frame.proofs.Validity.{some_answer}
use Rattle.tb_filter.specs.Promise.Filtered.{Check, may_test, passes, rows_kept, with_rows}
use Rattle.tb_node.specs.Kept.{kept}
use Rattle.tb_node.specs.Means.{AreTables, Means}
use Rattle.tb_node.specs.Promise.Settled.{settled}
use Rattle.tb_node.specs.Promise.Tables.{Tables}
use Rattle.tb_node.specs.Promise.Trees.{Tree, table, join}
use Rattle.tb_node.specs.Promise.Trees as tree
use Rattle.tb_node.specs.Promise.Pushed.{is_left, is_many, is_of_left, is_plain_left, names_beside, names_under, pushed, sink}
use Rattle.tb_node.proofs.KeptAnswer.{kept_filter, named_holds, named_kind, named_some, no_partner, with_one}
use Rattle.tb_node.proofs.KeptRefusal.{kept_refusal}
use Rattle.tb_value.proofs.Kept.{filter-map}

-- ARGS

pub left_only_kind : (h : JoinType) → is_left h ≡ true → h ≡ Left
left_only_kind Inner e = absurd (cc)
left_only_kind Left e = refl
left_only_kind Right e = absurd (cc)
left_only_kind Full e = absurd (cc)
left_only_kind Semi e = absurd (cc)
left_only_kind Anti e = absurd (cc)

many_only : (v : JoinValidation) → is_many v ≡ true → v ≡ ManyToMany
many_only ManyToMany e = refl
many_only ManyToOne e = absurd (cc)
many_only OneToMany e = absurd (cc)
many_only OneToOne e = absurd (cc)

nothing : {X : Type 0} (o : Option X) → is_none o ≡ true → o ≡ None
nothing None e = refl
nothing (Some x) e = absurd (cc)

something : {X : Type 0} (o : Option X) → is_none o ≡ false → (x : X) × (o ≡ Some x)
something None e = absurd (cc)
something (Some x) e = (x, refl)

-- TABLES

pub table_with : (ks : List ℕ) (t : Table) → IsTable t → IsTable (with_rows ks t)
table_with ks t x = record {
  distinct = subst (λ (ns : List Name). AllPairs (λ (a b : Name). a ≢ b) ns) (sym (map-map (λ (c : TableColumn). c.name) (with_one ks) t)) x.distinct;
  one_height = level_height (length ks) (with_rows ks t) (All-map (λ (c : TableColumn). length c.values ≡ length ks) (with_one ks) t (λ k d low. length-map ks (λ i. get_or (get_or t k d).values i null)));
  typed = All-map IsTyped (with_one ks) t (λ k d low. All-map (HasType (get_or t k d).kind) (λ i. get_or (get_or t k d).values i null) ks (λ i e under. at_place (HasType (get_or t k d).kind) (get_or t k d).values (get_or ks i e) tt (x.typed k d low)));
}

pub means_table : (ts : Tables) → AreTables ts → (n : Tree) (t : Table) → Means ts n t → IsTable t
means_table ts all (table n) t m = all n t m
means_table ts all (tree.filter i c k) t m = subst IsTable (sym m.5) (table_with (rows_kept k m.1) m.0 (means_table ts all i m.0 m.2))
means_table ts all (join l r lo ro a) t m = m.5.table

-- NAMES

fields_names : (a : JoinArgs) (lo ro : List Name) (l r : Table) → map (λ (f : Field). f.0) (answer_fields a lo ro (schema_of l) (schema_of r)) ≡ answer_names a lo ro (names_of l) (names_of r)
fields_names a lo ro l r =
    let name : Field → Name = λ f. f.0 in
    let ls : List Field = schema_of l in
    let rs : List Field = schema_of r in
    let lefts : map name ls ≡ names_of l = map-map name (λ (c : TableColumn). (c.name, c.kind)) l in
    let rights : map name rs ≡ names_of r = map-map name (λ (c : TableColumn). (c.name, c.kind)) r in
    let taken : List Name = left_names a lo (map name ls) in
    map-append name (filter (λ (f : Field). keeps_left a lo f.0) ls) (map (λ (f : Field). (right_name taken a.suffix f.0, f.1)) (filter (λ (f : Field). shows_right a ro f.0) rs))
    ∙ (λ t. sym (filter-map name (keeps_left a lo) ls) t ++ map-map name (λ (f : Field). (right_name taken a.suffix f.0, f.1)) (filter (λ (f : Field). shows_right a ro f.0) rs) t)
    ∙ ap (λ (ns : List Name). filter (keeps_left a lo) (map name ls) ++ ns)
    (sym (map-map (right_name taken a.suffix) name (filter (λ (f : Field). shows_right a ro f.0) rs)) ∙ ap (map (right_name taken a.suffix)) (sym (filter-map name (shows_right a ro) rs)))
    ∙ (λ t. left_names a lo (lefts t) ++ map (right_name (left_names a lo (lefts t)) a.suffix) (filter (shows_right a ro) (rights t)))

pub means_names : (ts : Tables) (n : Tree) (t : Table) → Means ts n t → names_under ts n ≡ Some (names_of t)
means_names ts (table n) t m = ap (option_map names_of) m
means_names ts (tree.filter i c k) t m =
    means_names ts i m.0 m.2 ∙ ap (λ (ns : List Name). Some ns) (sym (ap names_of m.5 ∙ map-map (λ (c : TableColumn). c.name) (with_one (rows_kept k m.1)) m.0))
means_names ts (join l r lo ro a) t m =
    (λ i. names_beside a lo ro (means_names ts l m.0 m.2 i) (means_names ts r m.1 m.3 i))
    ∙ ap (λ (ns : List Name). Some ns) (sym (fields_names (settled a) lo ro m.0 m.1) ∙ sym (ap (map (λ (f : Field). f.0)) m.5.columns) ∙ map-map (λ (f : Field). f.0) (λ (c : TableColumn). (c.name, c.kind)) t)

-- PUSHING

module _ (ts : Tables) (all : AreTables ts) where
  through : (l r : Tree) (lo ro : List Name) (a : JoinArgs) (c : Name) (k : Check) (t : Table)
      → is_plain_left a ≡ true → is_of_left (names_under ts l) (names_under ts r) c ≡ true
      → ((u : Table) → Means ts (tree.filter l c k) u → Means ts (sink ts c k l) u)
      → Means ts (tree.filter (join l r lo ro a) c k) t → Means ts (join (sink ts c k l) r lo ro a) t
  through l r lo ro a c k t plain inside below m =
      let both : (is_left a.how && is_many a.validation) ≡ true = first_so (is_left a.how && is_many a.validation) (is_none a.slice) plain in
      let how : a.how ≡ Left = left_only_kind a.how (first_so (is_left a.how) (is_many a.validation) both) in
      let many : a.validation ≡ ManyToMany = many_only a.validation (second_so (is_left a.how) (is_many a.validation) both) in
      let whole : a.slice ≡ None = nothing a.slice (second_so (is_left a.how && is_many a.validation) (is_none a.slice) plain) in
      let s : Table = m.0 in
      let col : TableColumn = m.1 in
      let j = m.2 in
      let x : Table = j.0 in
      let y : Table = j.1 in
      let is_x : IsTable x = means_table ts all l x j.2 in
      let is_y : IsTable y = means_table ts all r y j.3 in
      let among : is_among (names_of x) c ≡ true = ap₂ (λ (p q : Option (List Name)). is_of_left p q c) (sym (means_names ts l x j.2)) (sym (means_names ts r y j.3)) ∙ inside in
      let there = something (column_named x c) (unnamed-is c x ∙ ap not among) in
      let first : TableColumn = there.0 in
      let rows : List ℕ = rows_kept k first in
      let level : height x ≡ length first.values = sym (named_holds (λ (d : TableColumn). length d.values ≡ height x) x c first is_x.one_height there.1) in
      let kind : col.kind ≡ first.kind = named_kind x y lo ro (settled a) c first col s how whole j.5 there.1 m.3 in
      let valid : join_refusal (by_names (with_rows rows x) y lo ro (settled a)) ≡ None =
      subst (λ (n : ℕ). join_refusal (by_names (with_rows (kept (λ i. passes k (get_or first.values i null)) n) x) y lo ro (settled a)) ≡ None) level
      (kept_refusal (λ i. passes k (get_or first.values i null)) x y lo ro (settled a) how many (named_some x c first there.1) j.4) in
      let q' : Request = by_names (with_rows rows x) y lo ro (settled a) in
      let u = some_answer q' valid (table_with rows x is_x) is_y
      (λ i d low. subst (λ (o : Option TableColumn). ForSome o (λ e. (get_or (with_rows rows x) i d).kind ≡ e.kind)) (sym (no_partner q' (get_or (with_rows rows x) i d).name how)) (λ e is. absurd (cc))) in
      let same : with_rows (rows_kept k col) s ≡ u.0 = kept_filter x y lo ro (settled a) c k first col s u.0 how whole is_x there.1 j.5 u.1 m.3 in
      (with_rows rows x, y, below (with_rows rows x) (x, first, j.2, there.1, subst (λ (u : Kind). may_test k u ≡ true) kind m.4, refl), j.3, valid, subst (IsAnswer q') (sym (m.5 ∙ same)) u.1)

  pub sink_means : (n : Tree) (c : Name) (k : Check) (t : Table) → Means ts (tree.filter n c k) t → Means ts (sink ts c k n) t
  sink_means (table n) c k t m = m
  sink_means (tree.filter i d q) c k t m = m
  sink_means (join l r lo ro a) c k t m =
      let b : Bool = is_plain_left a && is_of_left (names_under ts l) (names_under ts r) c in
      let result : Bool → Tree = λ z. if z then join (sink ts c k l) r lo ro a else tree.filter (join l r lo ro a) c k in
      ⊎_elim
      (λ e. subst (λ z. Means ts (result z) t) (sym e) (through l r lo ro a c k t
      (first_so (is_plain_left a) (is_of_left (names_under ts l) (names_under ts r) c) e)
      (second_so (is_plain_left a) (is_of_left (names_under ts l) (names_under ts r) c) e)
      (λ u v. sink_means l c k u v) m))
      (λ e. subst (λ z. Means ts (result z) t) (sym e) m)
      (cases_Bool b)

  pub pushed_means : (n : Tree) (t : Table) → Means ts n t → Means ts (pushed ts n) t
  pushed_means (table n) t m = m
  pushed_means (tree.filter i c k) t m = sink_means (pushed ts i) c k t (m.0, m.1, pushed_means i m.0 m.2, m.3, m.4, m.5)
  pushed_means (join l r lo ro a) t m = (m.0, m.1, pushed_means l m.0 m.2, pushed_means r m.1 m.3, m.4, m.5)
