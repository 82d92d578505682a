-- What the calls of a node give.
use Rattle.std.proofs.Common.{◌≡◌, ℕ, Bool, true, false, if◌then◌else◌, List, length, refl, ap, sym, ◌∙◌, subst, Option, Some, None, Result, Ok, Err, inl, inr}
use Rattle.std.specs.Prelude.{◌≢◌, ◌⊎◌, IfNone, IfSome, is_none}
use Rattle.std.specs.List.{find}
use Rattle.std.specs.Option.{option_map}
use Rattle.tb_value.specs.Promise.Names.{Name, same_name}
use Rattle.tb_value.specs.Promise.Refusals.{when}
use Rattle.tb_value.specs.declared.error.PolarsError.{PolarsError}
use Rattle.tb_value.specs.declared.error.PolarsError.TheVariants.{ColumnNotFound}
use Rattle.tb_value.specs.declared.error.PolarsError.TheVariants as error
use Rattle.tb_chunk.specs.Promise.Col.{Col, values}
use Rattle.tb_frame.specs.declared.args.Direction.TheVariants.{Free}
use Rattle.tb_frame.specs.declared.args.JoinArgs.{JoinArgs}
use Rattle.tb_frame.specs.Join.{lent_request}
use Rattle.tb_frame.specs.Promise.Join.{IsAnswer, Request, by_names, column_named, direction}
use Rattle.tb_frame.specs.Promise.Refusal.{join_refusal}
use Rattle.tb_frame.specs.Promise.Table.{IsTable, Table, TableColumn, height, plain_column, table_of}
use Rattle.tb_frame.proofs.Selected.{named-plain}
use Rattle.tb_filter.specs.Promise.Filtered.{Check, may_test, rows_kept, with_rows}
use Rattle.tb_plan.specs.declared.faults.PlanFault.{PlanFault}
use Rattle.tb_plan.specs.declared.faults.PlanFault.TheVariants.{At, OutOfMemory, TestType}
use Rattle.tb_plan.specs.Gives.{fault_at}
use Rattle.tb_plan.specs.Seen.{table_kept}
use Rattle.tb_node.specs.Promise.Settled.{settled}
use Rattle.tb_plan.specs.Promise.Outcome.{◌>>=◌, filtered, joined, tested, the_answer, unless_refused}
use Rattle.tb_node.proofs.KeptAnswer.{named_holds}
use Rattle.tb_plan.proofs.TheAnswer.{none_free, the_one}

-- a refusal at a node is its fault, or want of memory
pub at_fault : {T : Type 0} (k : ℕ) (e : PolarsError) (r : Result T PlanFault) → r ≡ Err (At k e) → (fault_at k e ≡ OutOfMemory) ⊎ (r ≡ Err (fault_at k e))
at_fault k error.OutOfMemory r h = inl refl
at_fault k (ColumnNotFound n) r h = inr h
at_fault k (error.InvalidOperation x) r h = inr h
at_fault k (error.ComputeError x) r h = inr h
at_fault k (error.Duplicate n) r h = inr h
at_fault k error.ShapeMismatch r h = inr h
at_fault k error.SchemaMismatch r h = inr h

-- and so where a call settles by it
pub refused_at : {T : Type 0} (k : ℕ) (e : PolarsError) (f : PlanFault) (due : Result T PlanFault) (cause : Option PolarsError) → f ≡ fault_at k e
    → (e ≡ error.OutOfMemory) ⊎ (cause ≡ Some e) → ((x : PolarsError) → cause ≡ Some x → due ≡ Err (At k x)) → (f ≡ OutOfMemory) ⊎ (due ≡ Err f)
refused_at {T} k e f due cause is (inl o) h = inl (is ∙ ap (fault_at k) o)
refused_at {T} k e f due cause is (inr c) h = subst (λ (g : PlanFault). (g ≡ OutOfMemory) ⊎ (due ≡ Err g)) (sym is) (at_fault k e due (h e c))

-- JOINS

pub refused_as : (k : ℕ) (o : Option PolarsError) (t : Table) (e : PolarsError) → o ≡ Some e → unless_refused k o t ≡ Err (At k e)
refused_as k o t e h = ap (λ (x : Option PolarsError). unless_refused k x t) h

module _ (k : ℕ) (l l' r r' : List Col) (lo ro : List Name) (a a' : JoinArgs) (left : l ≡ l') (right : r ≡ r') (args : a ≡ settled a') where
  same_join : joined k (lent_request l r lo ro a) ≡ joined k (by_names (table_of l') (table_of r') lo ro (settled a'))
  same_join = λ i. joined k (by_names (table_of (left i)) (table_of (right i)) lo ro (args i))

  pub join_given : (t : Table) → IsTable (table_of l) → IsTable (table_of r) → join_refusal (lent_request l r lo ro a) ≡ None → IsAnswer (lent_request l r lo ro a) t
      → joined k (by_names (table_of l') (table_of r') lo ro (settled a')) ≡ Ok t
  unfolding joined
  join_given t is_l is_r none answer =
      let q : Request = lent_request l r lo ro a in
      let fixed : direction a.how a.maintain_order ≢ Free = subst (λ (b : JoinArgs). direction b.how b.maintain_order ≢ Free) (sym args) (none_free a') in
      sym same_join
      ∙ ap (λ (o : Option PolarsError). unless_refused k o (the_answer q)) none
      ∙ ap (λ (u : Table). Ok u) (sym ((the_one (table_of l) (table_of r) lo ro a t is_l is_r fixed none).0 answer))

  pub join_refused : (e : PolarsError) (f : PlanFault) → f ≡ fault_at k e → (e ≡ error.OutOfMemory) ⊎ (join_refusal (lent_request l r lo ro a) ≡ Some e)
      → (f ≡ OutOfMemory) ⊎ (joined k (by_names (table_of l') (table_of r') lo ro (settled a')) ≡ Err f)
  unfolding joined
  join_refused e f is h =
      refused_at k e f (joined k (by_names (table_of l') (table_of r') lo ro (settled a'))) (join_refusal (lent_request l r lo ro a)) is h
      (λ x c. sym same_join ∙ refused_as k (join_refusal (lent_request l r lo ro a)) (the_answer (lent_request l r lo ro a)) x c)

-- FILTERS

-- a refusal of a column's name, at the node
missing_here : (k : ℕ) (n : Name) (b : Bool) (e : PolarsError) (f : PlanFault) → f ≡ fault_at k e → (e ≡ error.OutOfMemory) ⊎ (when b (ColumnNotFound n) ≡ Some e)
    → (f ≡ OutOfMemory) ⊎ (when b (At k (ColumnNotFound n)) ≡ Some f)
missing_here k n b e f is (inl o) = inl (is ∙ ap (fault_at k) o)
missing_here k n true e f is (inr c) = let same : ColumnNotFound n ≡ e = cc in inr (ap (λ (x : PolarsError). Some (fault_at k x)) same ∙ ap (λ (x : PlanFault). Some x) (sym is))
missing_here k n false e f is (inr c) = absurd (cc)

abbrev found : Name → List Col → Option Col
found n cs = find (λ (c : Col). same_name c.name n) cs

pub missing_at : (k : ℕ) (n m : Name) (cs : List Col) (e : PolarsError) (f : PlanFault) → m ≡ n → f ≡ fault_at k e
    → (e ≡ error.OutOfMemory) ⊎ (when (is_none (find (λ (c : Col). same_name c.name m) cs)) (ColumnNotFound m) ≡ Some e)
    → (f ≡ OutOfMemory) ⊎ (when (is_none (find (λ (c : Col). same_name c.name n) cs)) (At k (ColumnNotFound n)) ≡ Some f)
missing_at k n m cs e f same is h =
    missing_here k n (is_none (found n cs)) e f is (subst (λ (x : Name). (e ≡ error.OutOfMemory) ⊎ (when (is_none (found x cs)) (ColumnNotFound x) ≡ Some e)) same h)

module _ (k : ℕ) (n : Name) (check : Check) (cs : List Col) where
  due-is : (o : Option Col) → found n cs ≡ o → filtered k n check (table_of cs) (column_named (table_of cs) n) ≡ filtered k n check (table_of cs) (option_map plain_column o)
  due-is o h = ap (filtered k n check (table_of cs)) (named-plain n cs ∙ ap (option_map plain_column) h)

  missing : (o : Option Col) → found n cs ≡ o → (f : PlanFault) → when (is_none o) (At k (ColumnNotFound n)) ≡ Some f → filtered k n check (table_of cs) (column_named (table_of cs) n) ≡ Err f
  missing None h f e = let same : At k (ColumnNotFound n) ≡ f = cc in due-is None h ∙ ap (λ (y : PlanFault). Err y) same
  missing (Some c) h f e = absurd (cc)

  pub column_missing : (f : PlanFault) → (f ≡ OutOfMemory) ⊎ (when (is_none (find (λ (c : Col). same_name c.name n) cs)) (At k (ColumnNotFound n)) ≡ Some f)
      → (f ≡ OutOfMemory) ⊎ (filtered k n check (table_of cs) (column_named (table_of cs) n) ≡ Err f)
  column_missing f (inl o) = inl o
  column_missing f (inr h) = inr (missing (found n cs) refl f h)

  module _ (c : Col) (there : find (λ (c : Col). same_name c.name n) cs ≡ Some c) where
    pub column_tested : filtered k n check (table_of cs) (column_named (table_of cs) n) ≡ tested k check (table_of cs) (plain_column c)
    column_tested = due-is (Some c) there

    pub column_level : IsTable (table_of cs) → length (values c) ≡ height (table_of cs)
    column_level table =
        named_holds (λ (d : TableColumn). length d.values ≡ height (table_of cs)) (table_of cs) n (plain_column c) table.one_height (named-plain n cs ∙ ap (option_map plain_column) there)

pub test_refused : (k : ℕ) (check : Check) (t : Table) (c : TableColumn) → may_test check c.kind ≡ false → tested k check t c ≡ Err (TestType k)
test_refused k check t c h = ap (λ (b : Bool). if b then Ok (with_rows (rows_kept check c) t) else Err (TestType k)) h

kept_is : (t u : Table) (o : Option (List Col)) → IfSome o (λ s. table_of s ≡ u) → IfNone o (u ≡ t) → u ≡ table_kept t o
kept_is t u None h g = g
kept_is t u (Some s) h g = sym h

pub test_given : (k : ℕ) (check : Check) (t : Table) (c : TableColumn) (o : Option (List Col)) → may_test check c.kind ≡ true
    → IfSome o (λ s. table_of s ≡ with_rows (rows_kept check c) t) → IfNone o (with_rows (rows_kept check c) t ≡ t) → tested k check t c ≡ Ok (table_kept t o)
test_given k check t c o h some none =
    ap (λ (b : Bool). if b then Ok (with_rows (rows_kept check c) t) else Err (TestType k)) h ∙ ap (λ (u : Table). Ok u) (kept_is t (with_rows (rows_kept check c) t) o some none)

-- of a table that is lent or made
module _ (k : ℕ) (n : Name) (check : Check) (cs ds : List Col) (same : cs ≡ ds) where
  pub filter_given : (o p : Option (List Col)) → o ≡ p → filtered k n check (table_of cs) (column_named (table_of cs) n) ≡ Ok (table_kept (table_of cs) o)
      → filtered k n check (table_of ds) (column_named (table_of ds) n) ≡ Ok (table_kept (table_of ds) p)
  filter_given o p is h =
      subst (λ (x : List Col). filtered k n check (table_of x) (column_named (table_of x) n) ≡ Ok (table_kept (table_of x) o)) same h
      ∙ ap (λ (q : Option (List Col)). Ok (table_kept (table_of ds) q)) is

  pub filter_refused : (f : PlanFault) → (f ≡ OutOfMemory) ⊎ (filtered k n check (table_of cs) (column_named (table_of cs) n) ≡ Err f)
      → (f ≡ OutOfMemory) ⊎ (filtered k n check (table_of ds) (column_named (table_of ds) n) ≡ Err f)
  filter_refused f h = subst (λ (x : List Col). (f ≡ OutOfMemory) ⊎ (filtered k n check (table_of x) (column_named (table_of x) n) ≡ Err f)) same h

-- ONE NODE AFTER ANOTHER

pub bound_ok : {A B : Type 0} (r : Result A PlanFault) (a : A) (f : A → Result B PlanFault) → r ≡ Ok a → (r >>= f) ≡ f a
bound_ok r a f h = ap (λ x. x >>= f) h
