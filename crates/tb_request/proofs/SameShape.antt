-- The members of a request of format 2, and of the same one in format 1.
use Rattle.std.proofs.Common.{◌≡◌, ◌∙◌, ℕ, List, map, Bool, true, false, Option, Some, None, option_and_then, option_map, codes, refl, sym, ap}
use Rattle.serde_json.specs.Data.{array, boolean, Data, Members, null, number, object, string, unsigned}
use Rattle.serde_json.specs.Find.{as_bool, as_str, get_member}
use Rattle.tb_value.specs.Promise.Names.{Name}
use Rattle.tb_agg.specs.declared.table.Aggregate.{Aggregate}
use Rattle.tb_frame.specs.declared.args.JoinArgs.{JoinArgs}
use Rattle.tb_pool.specs.Promise.ExecView.{ExecView}
use Rattle.tb_json.specs.Promise.Lists.{◌>>=◌, are_among, check, list_of}
use Rattle.tb_request.specs.declared.shape.Format.{Format}
use Rattle.tb_request.specs.declared.shape.Format.TheVariants.{Chunks, Runs}
use Rattle.tb_request.specs.Forms.{each_member, expand, expand_member, expand_table}
use Rattle.tb_request.specs.Promise.Members.{dummies_members, join_members, names_of, pivot_members, unpivot_members}
use Rattle.tb_request.specs.Promise.Written.{agg_named, args_of, dummies_of, format_numbered, format_of, join_of, optional_member, pivot_of, plan_of, standard_exec, table_at, table_of, text_or, unpivot_of, whole_of, Written, WrittenDummies, WrittenJoin, WrittenPivot, WrittenUnpivot}
use Rattle.tb_request.proofs.Expanded.{member_out, names_out, table_out, written_out}

-- WHAT f MAKES OF EACH MEMBER

-- a member that is the same in both
pub same_member : (f : List ℕ → Data → Data) (name : List ℕ) (ms : Members) → ((d : Data) → f name d ≡ d) → get_member name (each_member f ms) ≡ get_member name ms
same_member f name ms same = member_out f name ms ∙ all_same (get_member name ms) where
  all_same : (o : Option Data) → option_map (f name) o ≡ o
  all_same None = refl
  all_same (Some d) = ap Some (same d)

abbrev format_in : Option Data → Option Format
format_in o = optional_member Chunks (λ m. whole_of m >>= format_numbered) o

-- the format, of which f makes 1
pub format_out : (f : List ℕ → Data → Data) (ms : Members) → ((d : Data) → f (codes "format") d ≡ number (unsigned 1)) → format_of (object ms) ≡ Some Runs → format_of (object (each_member f ms)) ≡ Some Chunks
format_out f ms one e = ap format_in (member_out f (codes "format") ms) ∙ numbered (get_member (codes "format") ms) e where
  numbered : (o : Option Data) → format_in o ≡ Some Runs → format_in (option_map (f (codes "format")) o) ≡ Some Chunks
  numbered None e = cc
  numbered (Some d) e = ap (λ m. whole_of m >>= format_numbered) (one d)

-- where there are columns, those of the other request
abbrev pub GoOut : Option (List Written) → Option (List Written) → Type 0
GoOut o o' = (ws : List Written) → o ≡ Some ws → o' ≡ Some (map written_out ws)

-- a table, which f writes with chunks
pub side_out : (f : List ℕ → Data → Data) (name : List ℕ) (ms : Members) → ((d : Data) → f name d ≡ expand_table d) → GoOut (table_at Runs name (object ms)) (table_at Chunks name (object (each_member f ms)))
side_out f name ms same ws e = ap (option_and_then (table_of Chunks)) (member_out f name ms) ∙ side (get_member name ms) e where
  side : (o : Option Data) → (o >>= table_of Runs) ≡ Some ws → (option_map (f name) o >>= table_of Chunks) ≡ Some (map written_out ws)
  side None e = cc
  side (Some d) e = ap (table_of Chunks) (same d) ∙ table_out d ws e

pub some_is : {A : Type 0} (x y : A) → Some x ≡ Some y → x ≡ y
some_is x y e = cc

-- ---- a request to join

abbrev pub join_out : WrittenJoin → WrittenJoin
join_out w = record w { left = map written_out w.left; right = map written_out w.right }

abbrev sides_with : JoinArgs → ExecView → Bool → Option (List Written) → Option (List Name) → Option (List Written) → Option (List Name) → Option WrittenJoin
sides_with args exec trace left left_on right right_on = do
  l ← left
  lo ← left_on
  r ← right
  ro ← right_on
  Some (record { args = args; exec = exec; left = l; left_on = lo; right = r; right_on = ro; trace = trace })

abbrev join_with : Bool → Option JoinArgs → Option ExecView → Option Bool → Option Format → (Format → Option (List Written)) → Option (List Name) → (Format → Option (List Written)) → Option (List Name) → Option WrittenJoin
join_with known args exec trace format left left_on right right_on = do
  k ← check known
  a ← args
  e ← exec
  t ← trace
  f ← format
  sides_with a e t (left f) left_on (right f) right_on

sides_go : (a : JoinArgs) (e : ExecView) (t : Bool) (l l' : Option (List Written)) (lo : Option (List Name)) (r r' : Option (List Written)) (ro : Option (List Name)) (w : WrittenJoin) → GoOut l l' → GoOut r r' → sides_with a e t l lo r ro ≡ Some w → sides_with a e t l' lo r' ro ≡ Some (join_out w)
sides_go a e t None l' lo r r' ro w h k x = absurd (cc)
sides_go a e t (Some ls) l' None r r' ro w h k x = absurd (cc)
sides_go a e t (Some ls) l' (Some lo) None r' ro w h k x = absurd (cc)
sides_go a e t (Some ls) l' (Some lo) (Some rs) r' None w h k x = absurd (cc)
sides_go a e t (Some ls) l' (Some lo) (Some rs) r' (Some ro) w h k x =
    (λ i. sides_with a e t (h ls refl i) (Some lo) (k rs refl i) (Some ro))
    ∙ ap (λ (v : WrittenJoin). Some (join_out v)) (some_is (record { args = a; exec = e; left = ls; left_on = lo; right = rs; right_on = ro; trace = t }) w x)

join_goes : (known : Bool) (a : Option JoinArgs) (e : Option ExecView) (t : Option Bool) (l l' : Format → Option (List Written)) (lo : Option (List Name)) (r r' : Format → Option (List Written)) (ro : Option (List Name)) (w : WrittenJoin) → GoOut (l Runs) (l' Chunks) → GoOut (r Runs) (r' Chunks) → join_with known a e t (Some Runs) l lo r ro ≡ Some w → join_with known a e t (Some Chunks) l' lo r' ro ≡ Some (join_out w)
join_goes false a e t l l' lo r r' ro w h k x = absurd (cc)
join_goes true None e t l l' lo r r' ro w h k x = absurd (cc)
join_goes true (Some a) None t l l' lo r r' ro w h k x = absurd (cc)
join_goes true (Some a) (Some e) None l l' lo r r' ro w h k x = absurd (cc)
join_goes true (Some a) (Some e) (Some t) l l' lo r r' ro w h k x = sides_go a e t (l Runs) (l' Chunks) lo (r Runs) (r' Chunks) ro w h k x

abbrev join_names : List Name
join_names = names_of join_members

-- by the values of the members
abbrev join_by : Bool → (List ℕ → Option Data) → Option Format → (Format → List ℕ → Option (List Written)) → Option WrittenJoin
join_by known at format side =
    join_with known (at (codes "args") >>= args_of) (optional_member standard_exec plan_of (at (codes "exec"))) (optional_member false as_bool (at (codes "trace"))) format
    (λ f. side f (codes "left")) (at (codes "left_on") >>= list_of as_str) (λ f. side f (codes "right")) (at (codes "right_on") >>= list_of as_str)

pub join_of_out : (d : Data) (w : WrittenJoin) → format_of d ≡ Some Runs → join_of d ≡ Some w → join_of (expand d) ≡ Some (join_out w)
unfolding join_of
join_of_out null w e x = absurd (cc)
join_of_out (boolean b) w e x = absurd (cc)
join_of_out (number n) w e x = absurd (cc)
join_of_out (string s) w e x = absurd (cc)
join_of_out (array ds) w e x = absurd (cc)
join_of_out (object ms) w e x =
    (λ i. join_with (names_out expand_member join_names ms i)
    (same_member expand_member (codes "args") ms (λ d. refl) i >>= args_of)
    (optional_member standard_exec plan_of (same_member expand_member (codes "exec") ms (λ d. refl) i))
    (optional_member false as_bool (same_member expand_member (codes "trace") ms (λ d. refl) i))
    (format_out expand_member ms (λ d. refl) e i)
    (λ f. table_at f (codes "left") (expand (object ms)))
    (same_member expand_member (codes "left_on") ms (λ d. refl) i >>= list_of as_str)
    (λ f. table_at f (codes "right") (expand (object ms)))
    (same_member expand_member (codes "right_on") ms (λ d. refl) i >>= list_of as_str))
    ∙ join_goes (are_among join_names ms) (get_member (codes "args") ms >>= args_of) (optional_member standard_exec plan_of (get_member (codes "exec") ms)) (optional_member false as_bool (get_member (codes "trace") ms))
    (λ f. table_at f (codes "left") (object ms)) (λ f. table_at f (codes "left") (expand (object ms))) (get_member (codes "left_on") ms >>= list_of as_str)
    (λ f. table_at f (codes "right") (object ms)) (λ f. table_at f (codes "right") (expand (object ms))) (get_member (codes "right_on") ms >>= list_of as_str)
    w (side_out expand_member (codes "left") ms (λ d. refl)) (side_out expand_member (codes "right") ms (λ d. refl))
    (ap (λ o. join_by (are_among join_names ms) (λ name. get_member name ms) o (λ f name. table_at f name (object ms))) (sym e) ∙ x)

-- ---- a request with one table, to which other members are added

-- the rest of the request, by its table
abbrev pub table_first : {W : Type 0} → Bool → Option Format → (Format → Option (List Written)) → (List Written → Option W) → Option W
table_first known format table rest = do
  k ← check known
  f ← format
  t ← table f
  rest t

pub table_goes : {W : Type 0} (out : W → W) (known : Bool) (t t' : Format → Option (List Written)) (rest : List Written → Option W) (w : W) → GoOut (t Runs) (t' Chunks) → ((ws : List Written) → rest ws ≡ Some w → rest (map written_out ws) ≡ Some (out w)) → table_first known (Some Runs) t rest ≡ Some w → table_first known (Some Chunks) t' rest ≡ Some (out w)
table_goes out false t t' rest w h k x = absurd (cc)
table_goes out true t t' rest w h k x = one (t Runs) (t' Chunks) h x where
  one : (o o' : Option (List Written)) → GoOut o o' → (o >>= rest) ≡ Some w → (o' >>= rest) ≡ Some (out w)
  one None o' h x = absurd (cc)
  one (Some ws) o' h x = ap (option_and_then rest) (h ws refl) ∙ k ws x

-- ---- a request to make a table long

abbrev pub unpivot_out : WrittenUnpivot → WrittenUnpivot
unpivot_out w = record w { table = map written_out w.table }

abbrev unpivot_names : List Name
unpivot_names = names_of unpivot_members

abbrev unpivot_rest : Option (List Name) → Option (List Name) → Option (Option Name) → Option (Option Name) → List Written → Option WrittenUnpivot
unpivot_rest on index variable_name value_name table = do
  o ← on
  i ← index
  n ← variable_name
  v ← value_name
  Some (record { table = table; on = o; index = i; variable_name = n; value_name = v })

unpivot_goes : (o i : Option (List Name)) (n v : Option (Option Name)) (w : WrittenUnpivot) (ws : List Written) → unpivot_rest o i n v ws ≡ Some w → unpivot_rest o i n v (map written_out ws) ≡ Some (unpivot_out w)
unpivot_goes None i n v w ws x = absurd (cc)
unpivot_goes (Some o) None n v w ws x = absurd (cc)
unpivot_goes (Some o) (Some i) None v w ws x = absurd (cc)
unpivot_goes (Some o) (Some i) (Some n) None w ws x = absurd (cc)
unpivot_goes (Some o) (Some i) (Some n) (Some v) w ws x = ap (λ (u : WrittenUnpivot). Some (unpivot_out u)) (some_is (record { table = ws; on = o; index = i; variable_name = n; value_name = v }) w x)

abbrev unpivot_by : (List ℕ → Option Data) → List Written → Option WrittenUnpivot
unpivot_by at = unpivot_rest (at (codes "on") >>= list_of as_str) (at (codes "index") >>= list_of as_str) (text_or None (λ s. Some (Some s)) (at (codes "variable_name"))) (text_or None (λ s. Some (Some s)) (at (codes "value_name")))

unpivot_by_goes : (at : List ℕ → Option Data) (w : WrittenUnpivot) (ws : List Written) → unpivot_by at ws ≡ Some w → unpivot_by at (map written_out ws) ≡ Some (unpivot_out w)
unpivot_by_goes at w ws x = unpivot_goes (at (codes "on") >>= list_of as_str) (at (codes "index") >>= list_of as_str) (text_or None (λ s. Some (Some s)) (at (codes "variable_name"))) (text_or None (λ s. Some (Some s)) (at (codes "value_name"))) w ws x

pub unpivot_of_out : (d : Data) (w : WrittenUnpivot) → format_of d ≡ Some Runs → unpivot_of d ≡ Some w → unpivot_of (expand d) ≡ Some (unpivot_out w)
unfolding unpivot_of
unpivot_of_out null w e x = absurd (cc)
unpivot_of_out (boolean b) w e x = absurd (cc)
unpivot_of_out (number n) w e x = absurd (cc)
unpivot_of_out (string s) w e x = absurd (cc)
unpivot_of_out (array ds) w e x = absurd (cc)
unpivot_of_out (object ms) w e x =
    (λ i. table_first (names_out expand_member unpivot_names ms i) (format_out expand_member ms (λ d. refl) e i) (λ f. table_at f (codes "table") (expand (object ms)))
    (unpivot_rest
    (same_member expand_member (codes "on") ms (λ d. refl) i >>= list_of as_str)
    (same_member expand_member (codes "index") ms (λ d. refl) i >>= list_of as_str)
    (text_or None (λ s. Some (Some s)) (same_member expand_member (codes "variable_name") ms (λ d. refl) i))
    (text_or None (λ s. Some (Some s)) (same_member expand_member (codes "value_name") ms (λ d. refl) i))))
    ∙ table_goes unpivot_out (are_among unpivot_names ms) (λ f. table_at f (codes "table") (object ms)) (λ f. table_at f (codes "table") (expand (object ms))) (unpivot_by (λ name. get_member name ms)) w
    (side_out expand_member (codes "table") ms (λ d. refl)) (unpivot_by_goes (λ name. get_member name ms) w)
    (ap (λ o. table_first (are_among unpivot_names ms) o (λ f. table_at f (codes "table") (object ms)) (unpivot_by (λ name. get_member name ms))) (sym e) ∙ x)

-- the texts of a member that is a list of them, where it is there
abbrev texts_if : Option Data → Option (Option (List Name))
texts_if o = optional_member None (λ m. option_map Some (list_of as_str m)) o

-- ---- a request for dummies

abbrev pub dummies_out : WrittenDummies → WrittenDummies
dummies_out w = record w { table = map written_out w.table }

abbrev dummies_names : List Name
dummies_names = names_of dummies_members

abbrev dummies_rest : Option (Option (List Name)) → Option (Option Name) → Option Bool → List Written → Option WrittenDummies
dummies_rest columns separator drop_first table = do
  c ← columns
  s ← separator
  d ← drop_first
  Some (record { table = table; columns = c; separator = s; drop_first = d })

dummies_goes : (c : Option (Option (List Name))) (s : Option (Option Name)) (d : Option Bool) (w : WrittenDummies) (ws : List Written) → dummies_rest c s d ws ≡ Some w → dummies_rest c s d (map written_out ws) ≡ Some (dummies_out w)
dummies_goes None s d w ws x = absurd (cc)
dummies_goes (Some c) None d w ws x = absurd (cc)
dummies_goes (Some c) (Some s) None w ws x = absurd (cc)
dummies_goes (Some c) (Some s) (Some d) w ws x = ap (λ (u : WrittenDummies). Some (dummies_out u)) (some_is (record { table = ws; columns = c; separator = s; drop_first = d }) w x)

abbrev dummies_by : (List ℕ → Option Data) → List Written → Option WrittenDummies
dummies_by at = dummies_rest (texts_if (at (codes "columns"))) (text_or None (λ s. Some (Some s)) (at (codes "separator"))) (optional_member false as_bool (at (codes "drop_first")))

dummies_by_goes : (at : List ℕ → Option Data) (w : WrittenDummies) (ws : List Written) → dummies_by at ws ≡ Some w → dummies_by at (map written_out ws) ≡ Some (dummies_out w)
dummies_by_goes at w ws x = dummies_goes (texts_if (at (codes "columns"))) (text_or None (λ s. Some (Some s)) (at (codes "separator"))) (optional_member false as_bool (at (codes "drop_first"))) w ws x

pub dummies_of_out : (d : Data) (w : WrittenDummies) → format_of d ≡ Some Runs → dummies_of d ≡ Some w → dummies_of (expand d) ≡ Some (dummies_out w)
unfolding dummies_of
dummies_of_out null w e x = absurd (cc)
dummies_of_out (boolean b) w e x = absurd (cc)
dummies_of_out (number n) w e x = absurd (cc)
dummies_of_out (string s) w e x = absurd (cc)
dummies_of_out (array ds) w e x = absurd (cc)
dummies_of_out (object ms) w e x =
    (λ i. table_first (names_out expand_member dummies_names ms i) (format_out expand_member ms (λ d. refl) e i) (λ f. table_at f (codes "table") (expand (object ms)))
    (dummies_rest
    (texts_if (same_member expand_member (codes "columns") ms (λ d. refl) i))
    (text_or None (λ s. Some (Some s)) (same_member expand_member (codes "separator") ms (λ d. refl) i))
    (optional_member false as_bool (same_member expand_member (codes "drop_first") ms (λ d. refl) i))))
    ∙ table_goes dummies_out (are_among dummies_names ms) (λ f. table_at f (codes "table") (object ms)) (λ f. table_at f (codes "table") (expand (object ms))) (dummies_by (λ name. get_member name ms)) w
    (side_out expand_member (codes "table") ms (λ d. refl)) (dummies_by_goes (λ name. get_member name ms) w)
    (ap (λ o. table_first (are_among dummies_names ms) o (λ f. table_at f (codes "table") (object ms)) (dummies_by (λ name. get_member name ms))) (sym e) ∙ x)

-- ---- a request to make a table wide

abbrev pub pivot_out : WrittenPivot → WrittenPivot
pivot_out w = record w { table = map written_out w.table }

abbrev pivot_names : List Name
pivot_names = names_of pivot_members

abbrev pivot_rest : Option (List Name) → Option (Option (List Name)) → Option (Option (List Name)) → Option Bool → Option (Option Aggregate) → Option (Option Name) → List Written → Option WrittenPivot
pivot_rest on index values sort_columns agg separator table = do
  o ← on
  i ← index
  v ← values
  c ← sort_columns
  a ← agg
  s ← separator
  Some (record { table = table; on = o; index = i; values = v; sort_columns = c; agg = a; separator = s })

pivot_goes : (o : Option (List Name)) (i v : Option (Option (List Name))) (c : Option Bool) (a : Option (Option Aggregate)) (s : Option (Option Name)) (w : WrittenPivot) (ws : List Written) → pivot_rest o i v c a s ws ≡ Some w → pivot_rest o i v c a s (map written_out ws) ≡ Some (pivot_out w)
pivot_goes None i v c a s w ws x = absurd (cc)
pivot_goes (Some o) None v c a s w ws x = absurd (cc)
pivot_goes (Some o) (Some i) None c a s w ws x = absurd (cc)
pivot_goes (Some o) (Some i) (Some v) None a s w ws x = absurd (cc)
pivot_goes (Some o) (Some i) (Some v) (Some c) None s w ws x = absurd (cc)
pivot_goes (Some o) (Some i) (Some v) (Some c) (Some a) None w ws x = absurd (cc)
pivot_goes (Some o) (Some i) (Some v) (Some c) (Some a) (Some s) w ws x = ap (λ (u : WrittenPivot). Some (pivot_out u)) (some_is (record { table = ws; on = o; index = i; values = v; sort_columns = c; agg = a; separator = s }) w x)

abbrev agg_in : Option Data → Option (Option Aggregate)
agg_in o = text_or None (λ s. option_map Some (agg_named s)) o

abbrev pivot_by : (List ℕ → Option Data) → List Written → Option WrittenPivot
pivot_by at =
    pivot_rest (at (codes "on") >>= list_of as_str) (texts_if (at (codes "index"))) (texts_if (at (codes "values"))) (optional_member false as_bool (at (codes "sort_columns"))) (agg_in (at (codes "agg"))) (text_or None (λ s. Some (Some s)) (at (codes "separator")))

pivot_by_goes : (at : List ℕ → Option Data) (w : WrittenPivot) (ws : List Written) → pivot_by at ws ≡ Some w → pivot_by at (map written_out ws) ≡ Some (pivot_out w)
pivot_by_goes at w ws x = pivot_goes (at (codes "on") >>= list_of as_str) (texts_if (at (codes "index"))) (texts_if (at (codes "values"))) (optional_member false as_bool (at (codes "sort_columns"))) (agg_in (at (codes "agg"))) (text_or None (λ s. Some (Some s)) (at (codes "separator"))) w ws x

pub pivot_of_out : (d : Data) (w : WrittenPivot) → format_of d ≡ Some Runs → pivot_of d ≡ Some w → pivot_of (expand d) ≡ Some (pivot_out w)
unfolding pivot_of
pivot_of_out null w e x = absurd (cc)
pivot_of_out (boolean b) w e x = absurd (cc)
pivot_of_out (number n) w e x = absurd (cc)
pivot_of_out (string s) w e x = absurd (cc)
pivot_of_out (array ds) w e x = absurd (cc)
pivot_of_out (object ms) w e x =
    (λ i. table_first (names_out expand_member pivot_names ms i) (format_out expand_member ms (λ d. refl) e i) (λ f. table_at f (codes "table") (expand (object ms)))
    (pivot_rest
    (same_member expand_member (codes "on") ms (λ d. refl) i >>= list_of as_str)
    (texts_if (same_member expand_member (codes "index") ms (λ d. refl) i))
    (texts_if (same_member expand_member (codes "values") ms (λ d. refl) i))
    (optional_member false as_bool (same_member expand_member (codes "sort_columns") ms (λ d. refl) i))
    (agg_in (same_member expand_member (codes "agg") ms (λ d. refl) i))
    (text_or None (λ s. Some (Some s)) (same_member expand_member (codes "separator") ms (λ d. refl) i))))
    ∙ table_goes pivot_out (are_among pivot_names ms) (λ f. table_at f (codes "table") (object ms)) (λ f. table_at f (codes "table") (expand (object ms))) (pivot_by (λ name. get_member name ms)) w
    (side_out expand_member (codes "table") ms (λ d. refl)) (pivot_by_goes (λ name. get_member name ms) w)
    (ap (λ o. table_first (are_among pivot_names ms) o (λ f. table_at f (codes "table") (object ms)) (pivot_by (λ name. get_member name ms))) (sym e) ∙ x)
