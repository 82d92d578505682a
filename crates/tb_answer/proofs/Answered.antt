-- What is due for a request, by what its operation answers.
use Rattle.std.proofs.Common.{◌≡◌, ◌⊎◌, ◌∙◌, ℕ, Bool, List, Option, Some, Result, Ok, Err, IfOk, refl, sym, ap, subst}
use mathlib.Core.Logic.{inl, inr}
use Rattle.tb_value.specs.Refusals.{Settles}
use Rattle.tb_value.specs.declared.error.PolarsError.{PolarsError}
use Rattle.tb_value.specs.declared.error.PolarsError.TheVariants.{OutOfMemory}
use Rattle.tb_chunk.specs.Promise.Col.{Col}
use Rattle.tb_frame.specs.Promise.Join.{IsAnswer, by_names}
use Rattle.tb_frame.specs.Promise.Join as asking
use Rattle.tb_frame.specs.Promise.Refusal.{join_refusal}
use Rattle.tb_frame.specs.Promise.Table.{table_of}
use Rattle.tb_json.specs.Promise.Text.{text_of}
use Rattle.tb_request.specs.declared.request.Reason.{Reason}
use Rattle.tb_request.specs.declared.request.RequestFault.{RequestFault}
use Rattle.tb_request.specs.declared.request.RequestFault.TheVariants.{NoRequest}
use Rattle.tb_request.specs.Promise.Reading.{FaultIs, JoinRequest, UnpivotRequest, DummiesRequest, PivotRequest, asked_request, request_view, unpivot_view, dummies_view, pivot_view}
use Rattle.tb_request.specs.declared.request.JoinRequest as rust
use Rattle.tb_request.specs.declared.request.UnpivotRequest as rust_long
use Rattle.tb_request.specs.declared.request.DummiesRequest as rust_marked
use Rattle.tb_request.specs.declared.request.PivotRequest as rust_wide
use Rattle.tb_request.proofs.Unlaid.{table_unlaid}
use Rattle.tb_unpivot.specs.Promise.Unpivot.{unpivot_refusal, unpivot_table}
use Rattle.tb_unpivot.specs.Promise.Unpivot as long
use Rattle.tb_dummies.specs.Promise.Dummies.{dummies_refusal, dummies_table}
use Rattle.tb_dummies.specs.Promise.Dummies as marked
use Rattle.tb_pivot.specs.Promise.Pivot.{pivot_table}
use Rattle.tb_pivot.specs.Promise.Refusal.{pivot_refusal}
use Rattle.tb_pivot.specs.Promise.Request as wide
use Rattle.tb_calls.specs.Promise.Asked.{dummies_request, long_request, names_in, wide_request}
use Rattle.tb_answer.specs.declared.status.Status.{Status}
use Rattle.tb_answer.specs.Promise.Due.{DueOfReading, DueOfRequest, IsDummiesText, IsJoinText, IsLongText, IsWideText, asked_dummies, asked_long, asked_wide, joined_text, refusal_of_dummies, refusal_of_join, refusal_of_pivot, refusal_of_unpivot}
use Rattle.tb_answer.specs.Outcomes.{DueOfDummiesRequest, DueOfJoinRequest, DueOfPivotRequest, DueOfUnpivotRequest, IsJoinOutcome, IsNoRequest, IsOutcome, IsRefusal}

-- NO REQUEST

-- a fault with a reason is the reason why there is none
pub fault_is_due : {A R E : Type 0} (refusal : R → Option PolarsError) (IsText : R → List ℕ → Type 0) (read : Result R Reason) (fault : RequestFault) (s : A → Status) (text : A → List ℕ) (result : Result A E)
    → FaultIs fault read
    → IfOk result (λ a. (reason : Reason) × (fault ≡ NoRequest reason) × IsNoRequest reason (s a) (text a))
    → IfOk result (λ a. DueOfReading refusal IsText read (s a) (text a))
fault_is_due refusal IsText read fault s text (Ok a) is told =
    subst (λ r. DueOfReading refusal IsText r (s a) (text a)) (sym (subst (λ e. FaultIs e read) told.1 is)) told.2
fault_is_due refusal IsText read fault s text (Err e) is told = told

-- A REQUEST

-- what is refused is refused as the cause says
refusal_is_due : (cause : Option PolarsError) (IsText : List ℕ → Type 0) (e : PolarsError) (s : Status) (text : List ℕ) → (e ≡ OutOfMemory) ⊎ (cause ≡ Some e) → IsRefusal e s text → DueOfRequest cause IsText s text
refusal_is_due cause IsText e s text (inl want) is = absurd (is.0 want)
refusal_is_due cause IsText e s text (inr refuses) is = subst (λ c. DueOfRequest c IsText s text) (sym refuses) (is.1, is.2)

-- what an operation gives is what is due, where it is refused as the request is
outcome_is_due : (refusal cause : Option PolarsError) (IsText : List ℕ → Type 0) (outcome : Result (List Col) PolarsError) (s : Status) (text : List ℕ)
    → refusal ≡ cause → Settles outcome cause → IfOk outcome (λ t. IsText (text_of (table_of t))) → IsOutcome outcome s text → DueOfRequest refusal IsText s text
outcome_is_due refusal cause IsText (Ok t) s text same settles answers is = subst (λ c. DueOfRequest c IsText s text) (sym (same ∙ settles)) (is.0, subst IsText (sym is.1) answers)
outcome_is_due refusal cause IsText (Err e) s text same settles answers is = subst (λ c. DueOfRequest c IsText s text) (sym same) (refusal_is_due cause IsText e s text settles is)

outcomes_are_due : {A E : Type 0} (refusal cause : Option PolarsError) (IsText : List ℕ → Type 0) (outcome : Result (List Col) PolarsError) (s : A → Status) (text : A → List ℕ) (result : Result A E)
    → refusal ≡ cause → Settles outcome cause → IfOk outcome (λ t. IsText (text_of (table_of t)))
    → IfOk result (λ a. IsOutcome outcome (s a) (text a)) → IfOk result (λ a. DueOfRequest refusal IsText (s a) (text a))
outcomes_are_due refusal cause IsText outcome s text (Ok a) same settles answers is = outcome_is_due refusal cause IsText outcome (s a) (text a) same settles answers is
outcomes_are_due refusal cause IsText outcome s text (Err e) same settles answers is = is

-- the same of a join, whose trace may be asked
join_outcome_is_due : (refusal cause : Option PolarsError) (IsText : List ℕ → Type 0) (asks : Bool) (outcome : Result (List Col) PolarsError) (s : Status) (text : List ℕ)
    → refusal ≡ cause → Settles outcome cause → IfOk outcome (λ t. IsText (joined_text asks (table_of t))) → IsJoinOutcome asks outcome s text → DueOfRequest refusal IsText s text
join_outcome_is_due refusal cause IsText asks (Ok t) s text same settles answers is = subst (λ c. DueOfRequest c IsText s text) (sym (same ∙ settles)) (is.0, subst IsText (sym is.1) answers)
join_outcome_is_due refusal cause IsText asks (Err e) s text same settles answers is = subst (λ c. DueOfRequest c IsText s text) (sym same) (refusal_is_due cause IsText e s text settles is)

join_outcomes_are_due : {A E : Type 0} (refusal cause : Option PolarsError) (IsText : List ℕ → Type 0) (asks : Bool) (outcome : Result (List Col) PolarsError) (s : A → Status) (text : A → List ℕ) (result : Result A E)
    → refusal ≡ cause → Settles outcome cause → IfOk outcome (λ t. IsText (joined_text asks (table_of t)))
    → IfOk result (λ a. IsJoinOutcome asks outcome (s a) (text a)) → IfOk result (λ a. DueOfRequest refusal IsText (s a) (text a))
join_outcomes_are_due refusal cause IsText asks outcome s text (Ok a) same settles answers is = join_outcome_is_due refusal cause IsText asks outcome (s a) (text a) same settles answers is
join_outcomes_are_due refusal cause IsText asks outcome s text (Err e) same settles answers is = is

-- A JOIN

join_text : (r : JoinRequest) (outcome : Result (List Col) PolarsError) → IfOk outcome (λ t. IsAnswer (asked_request r) (table_of t))
    → IfOk outcome (λ t. IsJoinText r (joined_text r.trace (table_of t)))
unfolding IsJoinText
join_text r (Ok t) answer = (table_of t, answer, refl)
join_text r (Err e) answer = tt

module _ (q : rust.JoinRequest) where
  -- what is asked of the tables, which show no views in a request
  asked_is : by_names (table_of q.left) (table_of q.right) q.left_on.items q.right_on.items q.args ≡ asked_request (request_view q)
  asked_is = λ t. by_names (sym (table_unlaid q.left) t) (sym (table_unlaid q.right) t) q.left_on.items q.right_on.items q.args

  pub join_is_due : {A E : Type 0} (outcome : Result (List Col) PolarsError) (s : A → Status) (text : A → List ℕ) (result : Result A E)
      → Settles outcome (join_refusal (by_names (table_of q.left) (table_of q.right) q.left_on.items q.right_on.items q.args))
      → IfOk outcome (λ t. IsAnswer (by_names (table_of q.left) (table_of q.right) q.left_on.items q.right_on.items q.args) (table_of t))
      → IfOk result (λ a. IsJoinOutcome q.trace outcome (s a) (text a)) → IfOk result (λ a. DueOfJoinRequest (request_view q) (s a) (text a))
  unfolding refusal_of_join
  join_is_due outcome s text result settles answer is =
      join_outcomes_are_due (refusal_of_join (request_view q)) (join_refusal (asked_request (request_view q))) (IsJoinText (request_view q)) q.trace outcome s text result refl
      (subst (λ (a : asking.Request). Settles outcome (join_refusal a)) asked_is settles)
      (join_text (request_view q) outcome (subst (λ (a : asking.Request). IfOk outcome (λ t. IsAnswer a (table_of t))) asked_is answer)) is

-- A TABLE THAT IS MADE LONG

long_text : (r : UnpivotRequest) (outcome : Result (List Col) PolarsError) → IfOk outcome (λ t. table_of t ≡ unpivot_table (asked_long r))
    → IfOk outcome (λ t. IsLongText r (text_of (table_of t)))
unfolding IsLongText
long_text r (Ok t) is = ap text_of is
long_text r (Err e) is = tt

module _ (q : rust_long.UnpivotRequest) where
  long_is : long_request (table_of q.table) q.on.items q.index.items q.variable_name q.value_name ≡ asked_long (unpivot_view q)
  long_is = λ t. long_request (sym (table_unlaid q.table) t) q.on.items q.index.items q.variable_name q.value_name

  pub long_is_due : {A E : Type 0} (outcome : Result (List Col) PolarsError) (s : A → Status) (text : A → List ℕ) (result : Result A E)
      → Settles outcome (unpivot_refusal (long_request (table_of q.table) q.on.items q.index.items q.variable_name q.value_name))
      → IfOk outcome (λ t. table_of t ≡ unpivot_table (long_request (table_of q.table) q.on.items q.index.items q.variable_name q.value_name))
      → IfOk result (λ a. IsOutcome outcome (s a) (text a)) → IfOk result (λ a. DueOfUnpivotRequest (unpivot_view q) (s a) (text a))
  unfolding refusal_of_unpivot
  long_is_due outcome s text result settles table is =
      outcomes_are_due (refusal_of_unpivot (unpivot_view q)) (unpivot_refusal (asked_long (unpivot_view q))) (IsLongText (unpivot_view q)) outcome s text result refl
      (subst (λ (r : long.Request). Settles outcome (unpivot_refusal r)) long_is settles)
      (long_text (unpivot_view q) outcome (subst (λ (r : long.Request). IfOk outcome (λ t. table_of t ≡ unpivot_table r)) long_is table)) is

-- A TABLE WHOSE COLUMNS ARE REPLACED

dummies_text : (r : DummiesRequest) (outcome : Result (List Col) PolarsError) → IfOk outcome (λ t. table_of t ≡ dummies_table (asked_dummies r))
    → IfOk outcome (λ t. IsDummiesText r (text_of (table_of t)))
unfolding IsDummiesText
dummies_text r (Ok t) is = ap text_of is
dummies_text r (Err e) is = tt

module _ (q : rust_marked.DummiesRequest) where
  marked_is : dummies_request (table_of q.table) (names_in q.columns) q.separator q.drop_first ≡ asked_dummies (dummies_view q)
  marked_is = λ t. dummies_request (sym (table_unlaid q.table) t) (names_in q.columns) q.separator q.drop_first

  pub dummies_are_due : {A E : Type 0} (outcome : Result (List Col) PolarsError) (s : A → Status) (text : A → List ℕ) (result : Result A E)
      → Settles outcome (dummies_refusal (dummies_request (table_of q.table) (names_in q.columns) q.separator q.drop_first))
      → IfOk outcome (λ t. table_of t ≡ dummies_table (dummies_request (table_of q.table) (names_in q.columns) q.separator q.drop_first))
      → IfOk result (λ a. IsOutcome outcome (s a) (text a)) → IfOk result (λ a. DueOfDummiesRequest (dummies_view q) (s a) (text a))
  unfolding refusal_of_dummies
  dummies_are_due outcome s text result settles table is =
      outcomes_are_due (refusal_of_dummies (dummies_view q)) (dummies_refusal (asked_dummies (dummies_view q))) (IsDummiesText (dummies_view q)) outcome s text result refl
      (subst (λ (r : marked.Request). Settles outcome (dummies_refusal r)) marked_is settles)
      (dummies_text (dummies_view q) outcome (subst (λ (r : marked.Request). IfOk outcome (λ t. table_of t ≡ dummies_table r)) marked_is table)) is

-- A TABLE THAT IS MADE WIDE

wide_text : (r : PivotRequest) (outcome : Result (List Col) PolarsError) → IfOk outcome (λ t. table_of t ≡ pivot_table (asked_wide r))
    → IfOk outcome (λ t. IsWideText r (text_of (table_of t)))
unfolding IsWideText
wide_text r (Ok t) is = ap text_of is
wide_text r (Err e) is = tt

module _ (q : rust_wide.PivotRequest) where
  wide_is : wide_request (table_of q.table) q.on.items (names_in q.index) (names_in q.values) q.sort_columns q.agg q.separator ≡ asked_wide (pivot_view q)
  wide_is = λ t. wide_request (sym (table_unlaid q.table) t) q.on.items (names_in q.index) (names_in q.values) q.sort_columns q.agg q.separator

  pub pivot_is_due : {A E : Type 0} (outcome : Result (List Col) PolarsError) (s : A → Status) (text : A → List ℕ) (result : Result A E)
      → Settles outcome (pivot_refusal (wide_request (table_of q.table) q.on.items (names_in q.index) (names_in q.values) q.sort_columns q.agg q.separator))
      → IfOk outcome (λ t. table_of t ≡ pivot_table (wide_request (table_of q.table) q.on.items (names_in q.index) (names_in q.values) q.sort_columns q.agg q.separator))
      → IfOk result (λ a. IsOutcome outcome (s a) (text a)) → IfOk result (λ a. DueOfPivotRequest (pivot_view q) (s a) (text a))
  unfolding refusal_of_pivot
  pivot_is_due outcome s text result settles table is =
      outcomes_are_due (refusal_of_pivot (pivot_view q)) (pivot_refusal (asked_wide (pivot_view q))) (IsWideText (pivot_view q)) outcome s text result refl
      (subst (λ (r : wide.Request). Settles outcome (pivot_refusal r)) wide_is settles)
      (wide_text (pivot_view q) outcome (subst (λ (r : wide.Request). IfOk outcome (λ t. table_of t ≡ pivot_table r)) wide_is table)) is
