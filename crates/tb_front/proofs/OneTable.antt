-- Operations on the table of a text.
use Rattle.std.proofs.Common.{◌≡◌, List, ◌∷◌, Option, None, Result, IfOk, ℕ, subst}
use Rattle.tb_value.specs.Refusals as causes
use Rattle.tb_value.specs.declared.error.PolarsError.{PolarsError}
use Rattle.tb_chunk.specs.Promise.Col.{Col}
use Rattle.tb_frame.specs.Promise.Table.{Table, table_of}
use Rattle.tb_dummies.specs.Promise.Dummies.{dummies_refusal, dummies_table}
use Rattle.tb_dummies.specs.Promise.Dummies as marked
use Rattle.tb_value.specs.Promise.Refusals.{first_cause}
use Rattle.tb_csv.specs.declared.options.CsvOptions.{CsvOptions}
use Rattle.tb_front.specs.declared.fault.FrontFault.{FrontFault}
use Rattle.tb_front.specs.declared.options.TextForm.{TextForm}
use Rattle.tb_front.specs.Promise.Asked.{table_fault, table_faults}
use Rattle.tb_front.specs.Promise.Faults.{Settles}
use Rattle.tb_front.specs.Promise.Texts.{IsOutcome, table_in, text_in}
use Rattle.tb_front.proofs.Outcomes.{table_settles, table_text}
use Rattle.tb_front.proofs.Steps.{passes}

pub read_settles : {T : Type 0} (options : CsvOptions) (text : List ℕ) (table : Table) (faults : Table → List (Option FrontFault)) (result : Result T FrontFault)
    → table ≡ table_in options text → table_fault options text ≡ None
    → Settles result (first_cause (faults table)) → Settles result (first_cause (table_fault options text ∷ faults (table_in options text)))
read_settles options text table faults result is none settles =
    passes result (table_fault options text) (faults (table_in options text)) none
    (subst (λ (t : Table). Settles result (first_cause (faults t))) is settles)

pub read_answer : {E : Type 0} (form : TextForm) (options : CsvOptions) (text : List ℕ) (table : Table) (answer : Table → Table) (result : Result (List ℕ) E)
    → table ≡ table_in options text
    → IfOk result (λ s. s ≡ text_in form options.separator (answer table)) → IfOk result (λ s. s ≡ text_in form options.separator (answer (table_in options text)))
read_answer form options text table answer result is given =
    subst (λ (t : Table). IfOk result (λ s. s ≡ text_in form options.separator (answer t))) is given

-- what is asked with names of columns, as it was asked without them
module _ (form : TextForm) (separator : ℕ) (q r : marked.Request) (same : q ≡ r) (outcome : Result (List Col) PolarsError) (result : Result (List ℕ) FrontFault)
    (table : IfOk outcome (λ t. table_of t ≡ dummies_table q)) (is : IsOutcome form separator outcome result) where
  pub marked_settles : causes.Settles outcome (dummies_refusal q) → Settles result (first_cause (table_faults form (dummies_refusal r) (dummies_table r)))
  marked_settles settles =
      subst (λ (s : marked.Request). Settles result (first_cause (table_faults form (dummies_refusal s) (dummies_table s)))) same
      (table_settles form separator outcome result (dummies_refusal q) (dummies_table q) settles table is)

  pub marked_written : IfOk result (λ s. s ≡ text_in form separator (dummies_table r))
  marked_written =
      subst (λ (q : marked.Request). IfOk result (λ s. s ≡ text_in form separator (dummies_table q))) same (table_text form separator outcome result (dummies_table q) table is)
