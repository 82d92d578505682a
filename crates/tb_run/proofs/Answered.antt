-- What is due for a request, by what its operation answers.
use Rattle.std.proofs.Common.{◌≡◌, ◌∙◌, ℕ, List, Option, Result, Ok, Err, IfOk, MatchOption, option_map, refl, sym, ap, subst}
use mathlib.Core.Logic.{inl, inr}
use Rattle.tb_value.specs.Refusals.{Settles}
use Rattle.tb_value.specs.declared.error.PolarsError.{PolarsError}
use Rattle.tb_chunk.specs.Promise.Col.{Col}
use Rattle.tb_frame.specs.Promise.Join.{IsAnswer, by_names}
use Rattle.tb_frame.specs.Promise.Join as asking
use Rattle.tb_frame.specs.Promise.Refusal.{join_refusal}
use Rattle.tb_frame.specs.Promise.Table.{table_of}
use Rattle.tb_json.specs.Promise.Text.{text_of}
use Rattle.tb_request.specs.declared.request.Reason.{Reason}
use Rattle.tb_request.specs.declared.request.RequestFault.{RequestFault}
use Rattle.tb_request.specs.declared.request.RequestFault.TheVariants.{NoRequest}
use Rattle.tb_request.specs.Promise.Reading.{UnpivotRequest, DummiesRequest, PivotRequest, FaultIs, asked_request, request_view, unpivot_view, dummies_view, pivot_view}
use Rattle.tb_request.specs.declared.request.JoinRequest as rust
use Rattle.tb_request.specs.declared.request.UnpivotRequest as rust_long
use Rattle.tb_request.specs.declared.request.DummiesRequest as rust_marked
use Rattle.tb_request.specs.declared.request.PivotRequest as rust_wide
use Rattle.tb_request.proofs.Unlaid.{table_unlaid}
use Rattle.tb_unpivot.specs.Promise.Unpivot.{unpivot_refusal, unpivot_table}
use Rattle.tb_unpivot.specs.Promise.Unpivot as long
use Rattle.tb_dummies.specs.Promise.Dummies.{dummies_refusal, dummies_table}
use Rattle.tb_dummies.specs.Promise.Dummies as marked
use Rattle.tb_pivot.specs.Promise.Pivot.{pivot_table}
use Rattle.tb_pivot.specs.Promise.Refusal.{pivot_refusal}
use Rattle.tb_pivot.specs.Promise.Request as wide
use Rattle.tb_calls.specs.Promise.Asked.{dummies_request, long_request, names_in, wide_request}
use Rattle.tb_pairs.specs.Promise.Trace.{IsTraced, Trace, trace_told}
use Rattle.tb_pairs.specs.declared.trace.JoinTrace.{JoinTrace}
use Rattle.tb_join.specs.Promise.Traced.{named_trace}
use Rattle.tb_run.specs.declared.status.Status.{Status}
use Rattle.tb_run.specs.declared.status.Status.TheVariants as status
use Rattle.tb_run.specs.Promise.Due.{DueOfReading, DueOfRequest}
use Rattle.tb_run.specs.Due.{IsJoinOutcome, IsOutcome}
use Rattle.tb_run.specs.Promise.Traces.{due_trace, joined_text}
use Rattle.tb_run.proofs.Unlaid.{trace_unlaid}
use Rattle.tb_run.specs.Promise.Requests.{Refusal, Request, as_request, by_operation, asked_dummies, asked_long, asked_wide, join, unpivot, dummies, pivot, refusal_of, IsAnswerText, text_of_refusal}

-- ---- no request

-- a fault with a reason is the reason why there is none
reason_is_due : {A : Type 0} (f : A → Request) (read : Result A Reason) (reason : Reason) (s : Status) (text : List ℕ)
    → read ≡ Err reason → DueOfReading (Err reason) s text → DueOfReading (as_request f read) s text
reason_is_due f read reason s text is d = subst (λ r. DueOfReading (as_request f r) s text) (sym is) d

pub fault_is_due : {A B E : Type 0} (f : B → Request) (read : Result B Reason) (fault : RequestFault) (s : A → Status) (text : A → List ℕ) (result : Result A E)
    → FaultIs fault read
    → IfOk result (λ a. (reason : Reason) × (fault ≡ NoRequest reason) × DueOfReading (Err reason) (s a) (text a))
    → IfOk result (λ a. DueOfReading (as_request f read) (s a) (text a))
fault_is_due f read fault s text (Ok a) is told =
    reason_is_due f read told.0 (s a) (text a) (subst (λ e. FaultIs e read) told.1 is) told.2
fault_is_due f read fault s text (Err e) is told = told

-- ---- a request

-- what is due where the refusal is this one, or there is none
DueOf : Request → Status → List ℕ → Option Refusal → Type 0
DueOf q s text refusal = MatchOption refusal ((s ≡ status.Done) × IsAnswerText q text) (λ e. (s ≡ status.Refused) × (text ≡ text_of_refusal e))

-- the request that is asked is refused by what the operation settles, and else the table answers it
pub outcome_is_due : (q : Request) (cause : Option PolarsError) (outcome : Result (List Col) PolarsError) (s : Status) (text : List ℕ)
    → refusal_of q ≡ option_map by_operation cause
    → Settles outcome cause → IfOk outcome (λ t. IsAnswerText q (text_of (table_of t))) → IsOutcome outcome s text → DueOfRequest q s text
unfolding DueOf
outcome_is_due q cause (Ok t) s text refusal settles answers is =
    subst (DueOf q s text) (sym (refusal ∙ ap (option_map by_operation) settles)) (is.0, subst (IsAnswerText q) (sym is.1) answers)
outcome_is_due q cause (Err e) s text refusal (inl want) answers is = absurd (is.0 want)
outcome_is_due q cause (Err e) s text refusal (inr refuses) answers is = subst (DueOf q s text) (sym (refusal ∙ ap (option_map by_operation) refuses)) (is.1, is.2)

outcomes_are_due : {A E : Type 0} (q : Request) (cause : Option PolarsError) (outcome : Result (List Col) PolarsError) (s : A → Status) (text : A → List ℕ) (result : Result A E)
    → refusal_of q ≡ option_map by_operation cause
    → Settles outcome cause → IfOk outcome (λ t. IsAnswerText q (text_of (table_of t)))
    → IfOk result (λ a. IsOutcome outcome (s a) (text a)) → IfOk result (λ a. DueOfRequest q (s a) (text a))
outcomes_are_due q cause outcome s text (Ok a) refusal settles answers is = outcome_is_due q cause outcome (s a) (text a) refusal settles answers is
outcomes_are_due q cause outcome s text (Err e) refusal settles answers is = is

-- ---- a join

module _ (q : rust.JoinRequest) where
  -- what is asked of the tables, which show no views in a request
  asked_is : by_names (table_of q.left) (table_of q.right) q.left_on.items q.right_on.items q.args ≡ asked_request (request_view q)
  asked_is = λ t. by_names (sym (table_unlaid q.left) t) (sym (table_unlaid q.right) t) q.left_on.items q.right_on.items q.args

  trace_is : named_trace q.left q.right q.left_on.items q.right_on.items q.args q.exec ≡ due_trace (request_view q)
  trace_is = sym (trace_unlaid q.left q.right q.left_on.items q.right_on.items q.args q.exec)

  -- the table that the join gave answers the request, and its trace is the one that is due
  joined_is_due : (outcome : Result (List Col × JoinTrace) PolarsError) (s : Status) (text : List ℕ)
      → Settles outcome (join_refusal (asked_request (request_view q)))
      → IfOk outcome (λ x. IsAnswer (asked_request (request_view q)) (table_of x.0))
      → IfOk outcome (λ x. trace_told x.1 ≡ due_trace (request_view q))
      → IsJoinOutcome q.trace outcome s text → DueOfRequest (join (request_view q)) s text
  unfolding DueOf IsAnswerText refusal_of
  joined_is_due (Ok (t, how)) s text settles answer traced is =
      subst (DueOf (join (request_view q)) s text) (sym (ap (option_map by_operation) settles)) (is.0, (table_of t, answer, is.1 ∙ ap (joined_text q.trace (table_of t)) traced))
  joined_is_due (Err e) s text (inl want) answer traced is = absurd (is.0 want)
  joined_is_due (Err e) s text (inr cause) answer traced is = subst (DueOf (join (request_view q)) s text) (sym (ap (option_map by_operation) cause)) (is.1, is.2)

  joins_are_due : {A E : Type 0} (outcome : Result (List Col × JoinTrace) PolarsError) (s : A → Status) (text : A → List ℕ) (result : Result A E)
      → Settles outcome (join_refusal (asked_request (request_view q)))
      → IfOk outcome (λ x. IsAnswer (asked_request (request_view q)) (table_of x.0))
      → IfOk outcome (λ x. trace_told x.1 ≡ due_trace (request_view q))
      → IfOk result (λ a. IsJoinOutcome q.trace outcome (s a) (text a)) → IfOk result (λ a. DueOfRequest (join (request_view q)) (s a) (text a))
  joins_are_due outcome s text (Ok a) settles answer traced is = joined_is_due outcome (s a) (text a) settles answer traced is
  joins_are_due outcome s text (Err e) settles answer traced is = is

  told_as_due : (outcome : Result (List Col × JoinTrace) PolarsError) (due : Trace) → IfOk outcome (λ x. IsTraced q.exec due x.1) → IfOk outcome (λ x. trace_told x.1 ≡ due)
  told_as_due (Ok x) due traced = traced.tells
  told_as_due (Err e) due traced = tt

  pub join_is_due : {A E : Type 0} (outcome : Result (List Col × JoinTrace) PolarsError) (s : A → Status) (text : A → List ℕ) (result : Result A E)
      → Settles outcome (join_refusal (by_names (table_of q.left) (table_of q.right) q.left_on.items q.right_on.items q.args))
      → IfOk outcome (λ x. IsAnswer (by_names (table_of q.left) (table_of q.right) q.left_on.items q.right_on.items q.args) (table_of x.0))
      → IfOk outcome (λ x. IsTraced q.exec (named_trace q.left q.right q.left_on.items q.right_on.items q.args q.exec) x.1)
      → IfOk result (λ a. IsJoinOutcome q.trace outcome (s a) (text a)) → IfOk result (λ a. DueOfRequest (join (request_view q)) (s a) (text a))
  join_is_due outcome s text result settles answer traced is =
      joins_are_due outcome s text result
      (subst (λ (a : asking.Request). Settles outcome (join_refusal a)) asked_is settles)
      (subst (λ (a : asking.Request). IfOk outcome (λ x. IsAnswer a (table_of x.0))) asked_is answer)
      (subst (λ (d : Trace). IfOk outcome (λ x. trace_told x.1 ≡ d)) trace_is (told_as_due outcome _ traced))
      is

-- ---- a table that is made long

long_text : (r : UnpivotRequest) (outcome : Result (List Col) PolarsError) → IfOk outcome (λ t. table_of t ≡ unpivot_table (asked_long r))
    → IfOk outcome (λ t. IsAnswerText (unpivot r) (text_of (table_of t)))
unfolding IsAnswerText
long_text r (Ok t) table = ap text_of table
long_text r (Err e) table = tt

module _ (q : rust_long.UnpivotRequest) where
  long_is : long_request (table_of q.table) q.on.items q.index.items q.variable_name q.value_name ≡ asked_long (unpivot_view q)
  long_is = λ t. long_request (sym (table_unlaid q.table) t) q.on.items q.index.items q.variable_name q.value_name

  pub long_is_due : {A E : Type 0} (outcome : Result (List Col) PolarsError) (s : A → Status) (text : A → List ℕ) (result : Result A E)
      → Settles outcome (unpivot_refusal (long_request (table_of q.table) q.on.items q.index.items q.variable_name q.value_name))
      → IfOk outcome (λ t. table_of t ≡ unpivot_table (long_request (table_of q.table) q.on.items q.index.items q.variable_name q.value_name))
      → IfOk result (λ a. IsOutcome outcome (s a) (text a)) → IfOk result (λ a. DueOfRequest (unpivot (unpivot_view q)) (s a) (text a))
  unfolding refusal_of
  long_is_due outcome s text result settles table is =
      outcomes_are_due (unpivot (unpivot_view q)) (unpivot_refusal (asked_long (unpivot_view q))) outcome s text result refl
      (subst (λ (r : long.Request). Settles outcome (unpivot_refusal r)) long_is settles)
      (long_text (unpivot_view q) outcome (subst (λ (r : long.Request). IfOk outcome (λ t. table_of t ≡ unpivot_table r)) long_is table))
      is

-- ---- a table whose columns are replaced

dummies_text : (r : DummiesRequest) (outcome : Result (List Col) PolarsError) → IfOk outcome (λ t. table_of t ≡ dummies_table (asked_dummies r))
    → IfOk outcome (λ t. IsAnswerText (dummies r) (text_of (table_of t)))
unfolding IsAnswerText
dummies_text r (Ok t) table = ap text_of table
dummies_text r (Err e) table = tt

module _ (q : rust_marked.DummiesRequest) where
  marked_is : dummies_request (table_of q.table) (names_in q.columns) q.separator q.drop_first ≡ asked_dummies (dummies_view q)
  marked_is = λ t. dummies_request (sym (table_unlaid q.table) t) (names_in q.columns) q.separator q.drop_first

  pub dummies_are_due : {A E : Type 0} (outcome : Result (List Col) PolarsError) (s : A → Status) (text : A → List ℕ) (result : Result A E)
      → Settles outcome (dummies_refusal (dummies_request (table_of q.table) (names_in q.columns) q.separator q.drop_first))
      → IfOk outcome (λ t. table_of t ≡ dummies_table (dummies_request (table_of q.table) (names_in q.columns) q.separator q.drop_first))
      → IfOk result (λ a. IsOutcome outcome (s a) (text a)) → IfOk result (λ a. DueOfRequest (dummies (dummies_view q)) (s a) (text a))
  unfolding refusal_of
  dummies_are_due outcome s text result settles table is =
      outcomes_are_due (dummies (dummies_view q)) (dummies_refusal (asked_dummies (dummies_view q))) outcome s text result refl
      (subst (λ (r : marked.Request). Settles outcome (dummies_refusal r)) marked_is settles)
      (dummies_text (dummies_view q) outcome (subst (λ (r : marked.Request). IfOk outcome (λ t. table_of t ≡ dummies_table r)) marked_is table))
      is

-- ---- a table that is made wide

wide_text : (r : PivotRequest) (outcome : Result (List Col) PolarsError) → IfOk outcome (λ t. table_of t ≡ pivot_table (asked_wide r))
    → IfOk outcome (λ t. IsAnswerText (pivot r) (text_of (table_of t)))
unfolding IsAnswerText
wide_text r (Ok t) table = ap text_of table
wide_text r (Err e) table = tt

module _ (q : rust_wide.PivotRequest) where
  wide_is : wide_request (table_of q.table) q.on.items (names_in q.index) (names_in q.values) q.sort_columns q.agg q.separator ≡ asked_wide (pivot_view q)
  wide_is = λ t. wide_request (sym (table_unlaid q.table) t) q.on.items (names_in q.index) (names_in q.values) q.sort_columns q.agg q.separator

  pub pivot_is_due : {A E : Type 0} (outcome : Result (List Col) PolarsError) (s : A → Status) (text : A → List ℕ) (result : Result A E)
      → Settles outcome (pivot_refusal (wide_request (table_of q.table) q.on.items (names_in q.index) (names_in q.values) q.sort_columns q.agg q.separator))
      → IfOk outcome (λ t. table_of t ≡ pivot_table (wide_request (table_of q.table) q.on.items (names_in q.index) (names_in q.values) q.sort_columns q.agg q.separator))
      → IfOk result (λ a. IsOutcome outcome (s a) (text a)) → IfOk result (λ a. DueOfRequest (pivot (pivot_view q)) (s a) (text a))
  unfolding refusal_of
  pivot_is_due outcome s text result settles table is =
      outcomes_are_due (pivot (pivot_view q)) (pivot_refusal (asked_wide (pivot_view q))) outcome s text result refl
      (subst (λ (r : wide.Request). Settles outcome (pivot_refusal r)) wide_is settles)
      (wide_text (pivot_view q) outcome (subst (λ (r : wide.Request). IfOk outcome (λ t. table_of t ≡ pivot_table r)) wide_is table))
      is
