-- Joins of texts.
use Rattle.std.proofs.Common.{◌≡◌, ◌∙◌, ℕ, Bool, true, false, List, [], ◌∷◌, if◌then◌else◌, Option, Some, None, option_map, is_none, Result, Ok, Err, IfOk, refl, sym, ap, subst}
use Rattle.std.specs.List.{find}
use Rattle.tb_value.specs.Promise.Kind.{Kind}
use Rattle.tb_value.specs.Promise.Names.{Name}
use Rattle.tb_value.specs.Refusals as causes
use Rattle.tb_value.specs.declared.error.PolarsError.{PolarsError}
use Rattle.tb_chunk.specs.Promise.Col.{Col}
use Rattle.tb_frame.specs.Promise.Join.{IsAnswer, Request, out_columns}
use Rattle.tb_frame.specs.Promise.Refusal.{join_refusal}
use Rattle.tb_frame.specs.Promise.Table.{Table, TableColumn, schema_of, table_of}
use Rattle.tb_csv.specs.Promise.Faults as csv
use Rattle.tb_csv.specs.Promise.Texts.{field_type, no_column, no_text, text_refusal}
use Rattle.tb_csv.specs.declared.fault.CsvFault.{CsvFault}
use Rattle.tb_csv.specs.declared.fault.CsvFault.TheVariants.{NoText}
use Rattle.tb_calls.specs.Promise.Asked.{joined_of}
use Rattle.tb_calls.specs.declared.arguments.JoinCall.{JoinCall}
use Rattle.tb_front.specs.declared.options.TextForm.{TextForm}
use Rattle.tb_front.specs.declared.options.TextForm.TheVariants.{Csv, Json, Layout}
use Rattle.tb_front.specs.declared.options.TextOptions.{TextOptions}
use Rattle.tb_front.specs.declared.fault.FrontFault.{FrontFault}
use Rattle.tb_front.specs.declared.fault.FrontFault.TheVariants as fault
use Rattle.tb_front.specs.Promise.Asked.{IsAnswerText, answer_faults, asked_join, join_fault, joining_fault, left_table, right_table, tables_faults}
use Rattle.tb_value.specs.Promise.Refusals.{first_cause}
use Rattle.tb_front.specs.Promise.Faults.{Settles, empty_table, writing_fault}
use Rattle.tb_front.specs.Promise.Texts.{IsOutcome, joined_table}
use Rattle.tb_front.proofs.Outcomes.{outcome_settles}
use Rattle.tb_front.proofs.Steps.{first_of_one, passes}

-- ---- whether a table has a text is told by its names and types

same_no_column : (t : Table) → no_column (empty_table (schema_of t)) ≡ no_column t
same_no_column [] = refl
same_no_column (c ∷ cs) = refl

-- the fault of a column without a text, or that of the others
first_column : Bool → Name → Option CsvFault → Option CsvFault
first_column b name others = (if b then Some (NoText name) else others)

no_text_of : (c : TableColumn) (cs : Table) → no_text (c ∷ cs) ≡ first_column (is_none (field_type c.kind)) c.name (no_text cs)
unfolding first_column
no_text_of c cs =
    elim (is_none (field_type c.kind)) as (λ b. option_map (λ (d : TableColumn). NoText d.name) (if b then Some c else find (λ (d : TableColumn). is_none (field_type d.kind)) cs) ≡ (if b then Some (NoText c.name) else no_text cs)) [
      | true ↦ refl
      | false ↦ refl
    ]

same_no_text : (t : Table) → no_text (empty_table (schema_of t)) ≡ no_text t
same_no_text [] = refl
same_no_text (c ∷ cs) =
    no_text_of (record { name = c.name; kind = c.kind; values = [] }) (empty_table (schema_of cs))
    ∙ ap (first_column (is_none (field_type c.kind)) c.name) (same_no_text cs) ∙ sym (no_text_of c cs)

same_refusal : (t : Table) → text_refusal (empty_table (schema_of t)) ≡ text_refusal t
same_refusal t = λ i. first_cause (same_no_column t i ∷ same_no_text t i ∷ [])

pub same_written : (form : TextForm) (t : Table) (schema : List (Name × Kind)) → schema_of t ≡ schema → writing_fault form t ≡ writing_fault form (empty_table schema)
same_written Csv t schema is = ap (λ (r : Option CsvFault). option_map (λ e. fault.NoText e) r) (sym (same_refusal t) ∙ ap (λ (s : List (Name × Kind)). text_refusal (empty_table s)) is)
same_written Json t schema is = refl
same_written (Layout width) t schema is = refl

-- ---- an answer

module _ (form : TextForm) (separator : ℕ) (q : Request) where
  pub answers_written : (outcome : Result (List Col) PolarsError) → IfOk outcome (λ t. IsAnswer q (table_of t))
      → IfOk outcome (λ t. writing_fault form (table_of t) ≡ writing_fault form (empty_table (out_columns q)))
  answers_written (Ok t) answer = same_written form (table_of t) (out_columns q) answer.columns
  answers_written (Err e) answer = tt

  answer_settles : (outcome : Result (List Col) PolarsError) (result : Result (List ℕ) FrontFault)
      → causes.Settles outcome (join_refusal q) → IfOk outcome (λ t. IsAnswer q (table_of t))
      → IsOutcome form separator outcome result → Settles result (first_cause (answer_faults form q))
  answer_settles outcome result settles answer is =
      outcome_settles form separator outcome result (join_refusal q) (writing_fault form (empty_table (out_columns q))) settles (answers_written outcome answer) is

  pub joining_settles : (clash : Option FrontFault) (outcome : Result (List Col) PolarsError) (result : Result (List ℕ) FrontFault)
      → clash ≡ None → causes.Settles outcome (join_refusal q) → IfOk outcome (λ t. IsAnswer q (table_of t))
      → IsOutcome form separator outcome result → Settles result (first_cause (clash ∷ answer_faults form q))
  joining_settles clash outcome result none settles answer is = passes result clash (answer_faults form q) none (answer_settles outcome result settles answer is)

-- ---- the tables that texts are

module _ (o : TextOptions) (c : JoinCall) (l r : List ℕ) (left_on right_on : List Name) (lefts : left_on ≡ c.left_on.items) (rights : right_on ≡ c.right_on.items) where
  abbrev faults : List (Option FrontFault)
  faults = tables_faults o.csv c.left_on.items c.right_on.items l r

  same_faults : first_cause (tables_faults o.csv left_on right_on l r) ≡ first_cause faults
  same_faults = λ t. first_cause (tables_faults o.csv (lefts t) (rights t) l r)

  abbrev joining : Option FrontFault
  joining = joining_fault o.form c (left_table o.csv c l r) (right_table o.csv c l r)

  module _ (left right : Table) (first : left ≡ joined_table o.csv l r left_on right_on) (second : right ≡ joined_table o.csv r l right_on left_on) where
    left_is : left ≡ left_table o.csv c l r
    left_is = first ∙ (λ t. joined_table o.csv l r (lefts t) (rights t))

    right_is : right ≡ right_table o.csv c l r
    right_is = second ∙ (λ t. joined_table o.csv r l (rights t) (lefts t))

    pub texts_settle : {T : Type 0} (result : Result T FrontFault) → first_cause (tables_faults o.csv left_on right_on l r) ≡ None
        → Settles result (joining_fault o.form c left right) → Settles result (join_fault o c l r)
    texts_settle result none settles =
        passes result (first_cause faults) (joining ∷ []) (sym same_faults ∙ none)
        (subst (λ f. Settles result f) ((λ t. joining_fault o.form c (left_is t) (right_is t)) ∙ sym (first_of_one joining)) settles)

    pub texts_answer : {E : Type 0} (result : Result (List ℕ) E)
        → IfOk result (λ s. IsAnswerText o (joined_of c left right) s) → IfOk result (λ s. IsAnswerText o (asked_join o.csv c l r) s)
    texts_answer result answer = subst (λ (q : Request). IfOk result (λ s. IsAnswerText o q s)) (λ t. joined_of c (left_is t) (right_is t)) answer
