-- The stages in which a request is read, each with its reason, and what is known where no spot is found for one.
use Rattle.std.proofs.Common.{◌≡◌, ◌≤◌, List, map, Bool, true, false, Option, Some, None, refl, arith}
use Rattle.std.specs.Prelude.{is_some, ok_or, sum_by, Result, Ok, Err, ⊤}
use Rattle.std.specs.List.{list_all}
use Rattle.std.proofs.lemmas.Bool.{le-leb, leb-true}
use Rattle.serde_json.specs.Data.{Data}
use Rattle.tb_value.specs.declared.limits.TheConstants.{MAX_ROWS}
use Rattle.tb_chunk.specs.Promise.Col.{Col}
use Rattle.tb_pool.specs.Promise.ExecView.{ExecView}
use Rattle.tb_json.specs.Promise.Lists.{each}
use Rattle.tb_frame.specs.Promise.Frame.{are_level}
use Rattle.tb_frame.specs.Promise.Table as table
use Rattle.tb_frame.specs.Promise.Table.{names_of}
use Rattle.tb_request.specs.declared.request.Reason.{Reason}
use Rattle.tb_request.specs.declared.request.Reason.TheVariants as why
use Rattle.tb_request.specs.declared.runs.TheConstants.{MAX_RUN_VALUES}
use Rattle.tb_request.specs.declared.shape.Format.{Format}
use Rattle.tb_request.specs.Promise.Columns.{columns_from, rows_in_tables, tables_fit}
use Rattle.tb_request.specs.Promise.Flags.{flags_hold}
use Rattle.tb_request.specs.Promise.Reading.{◌>>=◌, are_distinct, are_frames, are_tables, may_stand, only_if, request_tables}
use Rattle.tb_request.specs.Promise.Written.{table_of, Written}
use Rattle.tb_why.specs.Columns.{table_rows, table_spot}
use Rattle.tb_why.proofs.EachRead.{Reads, each_read}
use Rattle.tb_why.proofs.MadeTables.{Free, rows_of_tables, tables_are_distinct, tables_are_level, tables_hold, tables_made}

-- ---- stages

pub not_none : {A : Type 0} (o : Option A) → o ≡ None → is_some o ≡ true → ⊥
not_none None h k = absurd (cc)
not_none (Some x) h k = absurd (cc)

pub not_false : (b : Bool) → b ≡ false → b ≡ true → ⊥
not_false true h k = absurd (cc)
not_false false h k = absurd (cc)

pub value_stage : {A B P : Type 0} (o : Option A) (e reason : Reason) (f : A → Result B Reason) → (ok_or o e >>= f) ≡ Err reason → (o ≡ None → reason ≡ e → P) → ((x : A) → o ≡ Some x → f x ≡ Err reason → P) → P
value_stage None e reason f h none some = none refl (cc)
value_stage (Some x) e reason f h none some = some x refl h

pub test_stage : {B P : Type 0} (b : Bool) (e reason : Reason) (f : ⊤ → Result B Reason) → (only_if b e >>= f) ≡ Err reason → (b ≡ false → reason ≡ e → P) → (b ≡ true → f tt ≡ Err reason → P) → P
test_stage true e reason f h fails holds = holds refl h
test_stage false e reason f h fails holds = fails refl (cc)

pub last_stage : {P : Type 0} (b : Bool) (e reason : Reason) → only_if b e ≡ Err reason → (b ≡ false → reason ≡ e → P) → P
last_stage true e reason h fails = absurd (cc)
last_stage false e reason h fails = fails refl (cc)

pub before_answer : {A B : Type 0} (r : Result A Reason) (reason : Reason) (f : A → B) → (r >>= λ x. Ok (f x)) ≡ Err reason → r ≡ Err reason
before_answer (Ok x) reason f h = absurd (cc)
before_answer (Err e) reason f h = cc

-- what is said of all tables
frames_stage : {P : Type 0} (ts : List (List Col)) (reason : Reason) → are_frames (map table.table_of ts) ≡ Err reason
    → (list_all are_level (map table.table_of ts) ≡ false → reason ≡ why.Heights → P)
    → (list_all (λ t. are_distinct (names_of t)) (map table.table_of ts) ≡ false → reason ≡ why.Name → P) → P
unfolding are_frames
frames_stage ts reason h level distinct = test_stage (list_all are_level (map table.table_of ts)) why.Heights reason _ h level (λ _ more. last_stage (list_all (λ t. are_distinct (names_of t)) (map table.table_of ts)) why.Name reason more distinct)

first_of_two : {A B P : Type 0} (r : Result A Reason) (reason : Reason) (f : A → Result B Reason) → (r >>= f) ≡ Err reason → (r ≡ Err reason → P) → ((x : A) → f x ≡ Err reason → P) → P
first_of_two (Ok x) reason f h first next = next x h
first_of_two (Err e) reason f h first next = first (cc)

pub tables_stage : {P : Type 0} (ts : List (List Col)) (reason : Reason) → are_tables ts ≡ Err reason
    → (list_all are_level (map table.table_of ts) ≡ false → reason ≡ why.Heights → P)
    → (list_all (λ t. are_distinct (names_of t)) (map table.table_of ts) ≡ false → reason ≡ why.Name → P)
    → (list_all flags_hold ts ≡ false → reason ≡ why.Flag → P) → P
unfolding are_tables
tables_stage ts reason h level distinct flags = first_of_two (are_frames (map table.table_of ts)) reason _ h
    (λ frames. frames_stage ts reason frames level distinct) (λ _ more. last_stage (list_all flags_hold ts) why.Flag reason more flags)

-- ---- the tables of a request

rows_are_few : (wss : List (List Written)) → tables_fit wss ≡ true → rows_in_tables wss ≤ MAX_ROWS
rows_are_few wss fit =
    let few : rows_in_tables wss ≤ MAX_RUN_VALUES = leb-true _ _ fit in
    omega arith

-- what is known where no spot is found for the reason why tables are none
pub record Placed (f : Format) (ts : List Data) (wss : List (List Written)) (exec : ExecView) (reason : Reason) : Type 0 where
  pub written : Reads (table_of f) ts wss
  pub value : reason ≡ why.Value → Free (table_spot f why.Value) ts
  pub room : reason ≡ why.Rows → sum_by table_rows ts ≤ MAX_RUN_VALUES
  pub stands : reason ≡ why.Exec → may_stand exec ≡ true
  pub heights : reason ≡ why.Heights → Free (table_spot f why.Heights) ts
  pub name : reason ≡ why.Name → Free (table_spot f why.Name) ts
  pub flag : reason ≡ why.Flag → Free (table_spot f why.Flag) ts

pub tables_placed : (f : Format) (ts : List Data) (wss : List (List Written)) (exec : ExecView) (reason : Reason) → Placed f ts wss exec reason → request_tables wss exec ≡ Err reason → ⊥
unfolding request_tables
tables_placed f ts wss exec reason p h =
    value_stage (each columns_from wss) why.Value reason _ h
    (λ e is. not_none _ e (tables_made f ts wss p.written (p.value is)))
    (λ css made rows.
    let read : Reads columns_from wss css = each_read columns_from wss css made in
    test_stage (tables_fit wss) why.Rows reason _ rows
    (λ e is. not_false _ e (le-leb _ _ (let room : sum_by table_rows ts ≤ MAX_RUN_VALUES = p.room is in omega (arith, rows_of_tables f ts wss p.written))))
    (λ fit numbers. test_stage (may_stand exec) why.Exec reason _ numbers
    (λ e is. not_false _ e (p.stands is))
    (λ stands last. tables_stage css reason (before_answer _ reason (λ _. css) last)
    (λ e is. not_false _ e (tables_are_level f ts wss css p.written read (p.heights is)))
    (λ e is. not_false _ e (tables_are_distinct f ts wss css p.written read (p.name is)))
    (λ e is. not_false _ e (tables_hold f ts wss css (rows_are_few wss fit) p.written read (p.flag is))))))
