-- What a tree answers is what it means.
use Rattle.std.proofs.Common.{◌≡◌, ℕ, ◌+◌, Bool, true, if◌then◌else◌, refl, ap, sym, ◌∙◌, Option, Some, None, ⊎_elim, Result, Ok, Err}
use Rattle.std.specs.Prelude.{◌↔◌}
use Rattle.std.proofs.lemmas.Bool.{cases_Bool}
use Rattle.tb_value.specs.Promise.Names.{Name}
use Rattle.tb_value.specs.declared.error.PolarsError.{PolarsError}
use Rattle.tb_frame.specs.Promise.Join.{Request, by_names, column_named}
use Rattle.tb_frame.specs.Promise.Refusal.{join_refusal}
use Rattle.tb_frame.specs.Promise.Table.{Table, TableColumn}
use Rattle.tb_filter.specs.Promise.Filtered.{Check, may_test, rows_kept, with_rows}
use Rattle.tb_plan.specs.declared.faults.PlanFault.{PlanFault}
use Rattle.tb_plan.specs.declared.faults.PlanFault.TheVariants.{TestType, UnknownTable}
use Rattle.tb_node.specs.Means.{AreTables, Means}
use Rattle.tb_node.specs.Promise.Settled.{settled}
use Rattle.tb_node.specs.Promise.Tables.{Tables}
use Rattle.tb_plan.specs.Promise.Outcome.{◌>>=◌, filtered, joined, or_fault, outcome, the_answer, unless_refused}
use Rattle.tb_node.specs.Promise.Pushed.{pushed}
use Rattle.tb_node.specs.Promise.Trees.{Tree, table, join, size}
use Rattle.tb_node.specs.Promise.Trees as tree
use Rattle.tb_node.proofs.PushedMeans.{means_table, pushed_means}
use Rattle.tb_plan.proofs.TheAnswer.{none_free, the_one}

there : (o : Option Table) (e : PlanFault) (t : Table) → or_fault o e ≡ Ok t → o ≡ Some t
there None e t h = absurd (cc)
there (Some s) e t h = cc

bound : {A B : Type 0} (r : Result A PlanFault) (f : A → Result B PlanFault) (b : B) → (r >>= f) ≡ Ok b → (a : A) × (r ≡ Ok a) × (f a ≡ Ok b)
bound (Ok a) f b h = (a, refl, h)
bound (Err e) f b h = absurd (cc)

answered : (k : ℕ) (o : Option PolarsError) (s t : Table) → unless_refused k o s ≡ Ok t → (o ≡ None) × (t ≡ s)
answered k None s t h = (refl, cc)
answered k (Some e) s t h = absurd (cc)

passed : (k : ℕ) (n : Name) (check : Check) (s t : Table) (o : Option TableColumn) → filtered k n check s o ≡ Ok t
    → (c : TableColumn) × (o ≡ Some c) × (may_test check c.kind ≡ true) × (t ≡ with_rows (rows_kept check c) s)
passed k n check s t None h = absurd (cc)
passed k n check s t (Some c) h = ⊎_elim
    (λ y. (c, refl, y, same (sym (ap (λ b. if b then Ok (with_rows (rows_kept check c) s) else Err (TestType k)) y) ∙ h)))
    (λ e. absurd (never (sym (ap (λ b. if b then Ok (with_rows (rows_kept check c) s) else Err (TestType k)) e) ∙ h)))
    (cases_Bool (may_test check c.kind))
  where
    same : ◌≡◌ {A = Result Table PlanFault} (Ok (with_rows (rows_kept check c) s)) (Ok t) → t ≡ with_rows (rows_kept check c) s
    same e = cc

    never : ◌≡◌ {A = Result Table PlanFault} (Err (TestType k)) (Ok t) → ⊥
    never e = cc

module _ (ts : Tables) (all : AreTables ts) where
  pub answered_means : (n : Tree) (t : Table) (first : ℕ) → outcome ts first n ≡ Ok t → Means ts n t
  unfolding joined
  answered_means (table n) t first h = there (ts n) (UnknownTable first n) t h
  answered_means (tree.filter i n k) t first h =
      let b = bound (outcome ts first i) (λ s. filtered (first + size i) n k s (column_named s n)) t h in
      let p = passed (first + size i) n k b.0 t (column_named b.0 n) b.2 in
      (b.0, p.0, answered_means i b.0 first b.1, p.1, p.2, p.3)
  answered_means (join l r lo ro a) t first h =
      let q : Table → Table → Request = λ x y. by_names x y lo ro (settled a) in
      let b = bound (outcome ts first l) (λ x. outcome ts (first + size l) r >>= λ y. joined (first + size l + size r) (q x y)) t h in
      let d = bound (outcome ts (first + size l) r) (λ y. joined (first + size l + size r) (q b.0 y)) t b.2 in
      let e = answered (first + size l + size r) (join_refusal (q b.0 d.0)) (the_answer (q b.0 d.0)) t d.2 in
      let left = answered_means l b.0 first b.1 in
      let right = answered_means r d.0 (first + size l) d.1 in
      (b.0, d.0, left, right, e.0, (the_one b.0 d.0 lo ro (settled a) t (means_table ts all l b.0 left) (means_table ts all r d.0 right) (none_free a) e.0).1 e.1)

  pub means_answered : (n : Tree) (t : Table) (first : ℕ) → Means ts n t → outcome ts first n ≡ Ok t
  unfolding joined
  means_answered (table n) t first m = ap (λ (o : Option Table). or_fault o (UnknownTable first n)) m
  means_answered (tree.filter i n k) t first m =
      let step : Table → Result Table PlanFault = λ s. filtered (first + size i) n k s (column_named s n) in
      ap (λ (r : Result Table PlanFault). r >>= step) (means_answered i m.0 first m.2)
      ∙ ap (filtered (first + size i) n k m.0) m.3
      ∙ ap (λ (b : Bool). if b then Ok (with_rows (rows_kept k m.1) m.0) else Err (TestType (first + size i))) m.4
      ∙ ap (λ (u : Table). Ok u) (sym m.5)
  means_answered (join l r lo ro a) t first m =
      let q : Table → Table → Request = λ x y. by_names x y lo ro (settled a) in
      let number : ℕ = first + size l + size r in
      ap (λ (s : Result Table PlanFault). s >>= λ x. outcome ts (first + size l) r >>= λ y. joined number (q x y)) (means_answered l m.0 first m.2)
      ∙ ap (λ (s : Result Table PlanFault). s >>= λ y. joined number (q m.0 y)) (means_answered r m.1 (first + size l) m.3)
      ∙ ap (λ (o : Option PolarsError). unless_refused number o (the_answer (q m.0 m.1))) m.4
      ∙ ap (λ (u : Table). Ok u) (sym ((the_one m.0 m.1 lo ro (settled a) t (means_table ts all l m.0 m.2) (means_table ts all r m.1 m.3) (none_free a) m.4).0 m.5))

pub outcome_means : (ts : Tables) (n : Tree) (t : Table) (first : ℕ) → AreTables ts → (outcome ts first n ≡ Ok t) ↔ Means ts n t
outcome_means ts n t first all = (answered_means ts all n t first, means_answered ts all n t first)

pub same_answer : (ts : Tables) (n : Tree) (t : Table) (first second : ℕ) → AreTables ts → outcome ts first n ≡ Ok t → outcome ts second (pushed ts n) ≡ Ok t
same_answer ts n t first second all h = means_answered ts all (pushed ts n) t second (pushed_means ts all n t (answered_means ts all n t first h))
