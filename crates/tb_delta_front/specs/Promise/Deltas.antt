-- A join of two texts that is kept through the steps of a third: which pairs each step adds and takes, and the table at the end.
use Rattle.std.specs.Prelude.{ℕ, ◌+◌, nat_le, nat_lt, pos, Bool, true, false, List, [], ◌∷◌, ◌++◌, map, length, codes, if◌then◌else◌, Option, Some, None, is_none, option_map, Result, Ok, Err}
use Rattle.tb_value.specs.Promise.Datum.{Datum, int, string}
use Rattle.tb_value.specs.Promise.Kind.{Kind}
use Rattle.tb_value.specs.Promise.Kind as kind
use Rattle.tb_value.specs.Promise.Names.{Name}
use Rattle.tb_value.specs.Promise.Refusals.{first_cause, when}
use Rattle.tb_value.specs.declared.error.ComputeCause.TheVariants.{TooManyRows}
use Rattle.tb_value.specs.declared.error.PolarsError.TheVariants.{ComputeError}
use Rattle.tb_value.specs.declared.error.Side.{Side}
use Rattle.tb_value.specs.declared.error.Side.TheVariants as side
use Rattle.tb_value.specs.declared.limits.TheConstants.{MAX_ROWS}
use Rattle.tb_frame.specs.Promise.Join.{Request, out_columns}
use Rattle.tb_frame.specs.Promise.Refusal.{too_many_rows}
use Rattle.tb_frame.specs.Promise.Table.{Table, TableColumn, schema_of}
use Rattle.tb_csv.specs.declared.options.CsvOptions.{CsvOptions}
use Rattle.tb_delta.specs.Promise.Now.{now, view_refusal}
use Rattle.tb_delta.specs.Promise.State.{State, given, of_side, row_of}
use Rattle.tb_delta.specs.Promise.Steps.{Step, after, insert, remove, stepped}
use Rattle.tb_delta.specs.Promise.Steps as steps
use Rattle.tb_delta_front.specs.declared.deltas.DeltaCall.{DeltaCall}
use Rattle.tb_front.specs.declared.fault.FrontFault.{FrontFault}
use Rattle.tb_front.specs.declared.fault.FrontFault.TheVariants as fault
use Rattle.tb_front.specs.declared.fault.StepCause.{StepCause}
use Rattle.tb_front.specs.declared.fault.StepCause.TheVariants as cause
use Rattle.tb_front.specs.declared.options.TextForm.{TextForm}
use Rattle.tb_front.specs.declared.options.TextOptions.{TextOptions}
use Rattle.tb_front.specs.Promise.Asked.{IsAnswerText, tables_faults}
use Rattle.tb_front.specs.Promise.Due.{◌>>=◌, unless}
use Rattle.tb_front.specs.Promise.Faults.{empty_table, key_clash, refusal_fault, writing_fault}
use Rattle.tb_delta_front.specs.Promise.Steps.{steps_in}
use Rattle.tb_front.specs.Promise.Texts.{joined_table, written}

-- ---- what steps change

-- a pair of rows that a step adds to the join or takes from it: the number of the step, whether it adds, and the ids of both rows
pub record Change : Type 0 where
  pub step : ℕ
  pub comes : Bool
  pub left : ℕ
  pub right : ℕ

-- the pair of a row of a side and one of the other
abbrev pub pair_with : ℕ → Bool → Side → ℕ → ℕ → Change
pair_with n comes side.Left id other = record { step = n; comes = comes; left = id; right = other }
pair_with n comes side.Right id other = record { step = n; comes = comes; left = other; right = id }

-- a row that is put in comes with each of its partners, and one that is taken out goes with each of them
abbrev pub changed : ℕ → State → Step → List Change
changed n s (insert side row) =
    map (pair_with n true side (of_side side s).ever) (steps.told s (insert side row))
changed n s (remove side id) = map (pair_with n false side id) (steps.told s (remove side id))

-- what steps change, the first of which has this number
abbrev pub changes : ℕ → State → List Step → List Change
changes n s [] = []
changes n s (x ∷ xs) = changed n s x ++ changes (n + 1) (stepped s x) xs

-- ---- why a step is not done: there is no room for the row, or no row to take out

abbrev pub step_cause : State → Step → Option StepCause
step_cause s (insert side row) = when (nat_le MAX_ROWS (of_side side s).ever) cause.Full
step_cause s (remove side id) = when (is_none (row_of (of_side side s) id)) (cause.NoRow side id)

abbrev pub step_fault : ℕ → State → Step → Option FrontFault
step_fault n s x = option_map (λ c. fault.Step n c) (step_cause s x)

-- the first step that isn't
abbrev pub steps_fault : ℕ → State → List Step → Option FrontFault
steps_fault n s [] = None
steps_fault n s (x ∷ xs) =
    first_cause (step_fault n s x ∷ steps_fault (n + 1) (stepped s x) xs ∷ [])

-- ---- the texts

-- the two tables whose join is kept
abbrev pub kept_tables : CsvOptions → DeltaCall → List ℕ → List ℕ
    → Result (Table × Table) FrontFault
kept_tables o c left right =
    unless (first_cause (tables_faults o (c.left_on ∷ []) (c.right_on ∷ []) left right))
    >>=
    λ _.
    Ok (
      joined_table o left right (c.left_on ∷ []) (c.right_on ∷ []),
      joined_table o right
          left (c.right_on ∷ []) (c.left_on ∷ []),
    )

abbrev pub state_of : DeltaCall → Table × Table → State
state_of c t = given t.0 t.1 c.left_on c.right_on c.join_nulls

-- a state and steps, where each step is done
abbrev pub steps_done : State → List Step → Result (State × List Step) FrontFault
steps_done s xs = unless (steps_fault 1 s xs) >>= λ _. Ok (s, xs)

-- the state of two tables that have such a join, and steps
abbrev pub kept_from : DeltaCall → Table × Table → List Step → Result (State × List Step) FrontFault
kept_from c t xs =
    unless (refusal_fault (view_refusal (state_of c t))) >>= λ _. steps_done (state_of c t) xs

-- and the steps that a text is
abbrev pub kept_behind : DeltaCall → Table × Table → List ℕ → Result (State × List Step) FrontFault
kept_behind c t text = steps_in (schema_of t.0) (schema_of t.1) text >>= kept_from c t

-- the same, where the keys are of one type
abbrev pub asked_of : DeltaCall → Table × Table → List ℕ → Result (State × List Step) FrontFault
asked_of c t text =
    unless (key_clash t.0 t.1 (c.left_on ∷ []) (c.right_on ∷ [])) >>= λ _. kept_behind c t text

-- the state before all steps, and the steps
abbrev pub asked_steps : CsvOptions → DeltaCall → List ℕ → List ℕ → List ℕ
    → Result (State × List Step) FrontFault
asked_steps o c left right text = kept_tables o c left right >>= λ t. asked_of c t text

-- ---- what is changed, as a table

abbrev pub sign_of : Bool → List ℕ
sign_of b = (if b then codes "+" else codes "-")

abbrev pub number : ℕ → Datum
number n = int (pos n)

-- a column of the table, by what it has of each change
abbrev pub changes_column : List Change → Name → Kind → (Change → Datum) → TableColumn
changes_column cs n t value = record { name = n; kind = t; values = map value cs }

abbrev pub changes_table : List Change → Table
changes_table cs =
    changes_column cs (codes "step") kind.uint64 (λ c. number c.step)
    ∷ changes_column cs (codes "change") kind.string (λ c. string (sign_of c.comes))
    ∷ changes_column cs (codes "left") kind.uint32 (λ c. number c.left)
    ∷ changes_column cs (codes "right") kind.uint32 (λ c. number c.right)
    ∷ []

-- a table has only so many rows
abbrev pub changes_text : TextOptions → List Change → Result (List ℕ) FrontFault
changes_text o cs =
    unless (when (nat_lt MAX_ROWS (length cs)) (fault.Refused (ComputeError TooManyRows)))
    >>= λ _. written o.form o.csv.separator (changes_table cs)

-- the text of what steps change, where each is done
abbrev pub changed_text : TextOptions → Result (State × List Step) FrontFault
    → Result (List ℕ) FrontFault
changed_text o r = r >>= λ a. changes_text o (changes 1 a.0 a.1)

abbrev pub delta_text : TextOptions → DeltaCall → List ℕ → List ℕ → List ℕ
    → Result (List ℕ) FrontFault
delta_text o c left right text = changed_text o (asked_steps o.csv c left right text)

-- ---- the table at the end

-- the join of the rows that there are behind all steps
abbrev pub end_of : State × List Step → Request
end_of a = now (after a.0 a.1)

-- why there is no text of it
abbrev pub end_faults : TextForm → Request → Option FrontFault
end_faults form q = first_cause
    (refusal_fault (too_many_rows q) ∷ writing_fault form (empty_table (out_columns q)) ∷ [])

abbrev pub end_fault : TextForm → Result (State × List Step) FrontFault → Option FrontFault
end_fault form (Err e) = Some e
end_fault form (Ok a) = end_faults form (end_of a)

-- the text is that of some table of the join at the end
abbrev pub IsEndText : TextOptions → Result (State × List Step) FrontFault → List ℕ → Type 0
IsEndText o (Err e) text = ⊥
IsEndText o (Ok a) text = IsAnswerText o (end_of a) text
