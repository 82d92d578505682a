-- The tables that texts are, and the texts of answers.
use Rattle.std.specs.Prelude.{◌≡◌, ℕ, List, [], ◌∷◌, Result, Ok, Err, IfOk, encode_utf8_all}
use Rattle.tb_value.specs.Promise.Names.{Name}
use Rattle.tb_value.specs.Promise.Refusals.{first_cause}
use Rattle.tb_value.specs.declared.error.PolarsError.{PolarsError}
use Rattle.tb_value.specs.declared.error.PolarsError.TheVariants as cause
use Rattle.tb_chunk.specs.Promise.Col.{Col}
use Rattle.tb_frame.specs.Promise.Table.{Table, table_of}
use Rattle.tb_csv.specs.Promise.Keys.{types_with_keys}
use Rattle.tb_csv.specs.Promise.Records.{records_of}
use Rattle.tb_csv.specs.Promise.Tables.{csv_table}
use Rattle.tb_csv.specs.Promise.Texts.{csv_text}
use Rattle.tb_csv.specs.declared.options.CsvOptions.{CsvOptions}
use Rattle.tb_csv.specs.declared.options.TypeOf.{TypeOf}
use Rattle.tb_json.specs.Promise.Text.{text_of}
use Rattle.tb_layout.specs.Promise.Lines.{layout}
use Rattle.tb_front.specs.declared.options.TextForm.{TextForm}
use Rattle.tb_front.specs.declared.options.TextForm.TheVariants.{Csv, Json, Layout}
use Rattle.tb_front.specs.declared.fault.FrontFault.{FrontFault}
use Rattle.tb_front.specs.declared.fault.FrontFault.TheVariants as fault
use Rattle.tb_front.specs.declared.fault.Place.{Place}
use Rattle.tb_front.specs.Promise.Due.{◌>>=◌, unless}
use Rattle.tb_front.specs.Promise.Faults.{Settles, no_records, no_types, writing_fault}

-- the table that a text is
abbrev pub table_in : CsvOptions → List ℕ → Table
table_in options text = csv_table options.types.items (records_of options.separator text)

-- the same of the text at a place, or why it is none
abbrev pub table_at : CsvOptions → Place → List ℕ → Result Table FrontFault
table_at o place text = unless
    (first_cause (no_records o place text ∷ no_types o place text o.types.items ∷ [])) >>=
    λ _. Ok (table_in o text)

-- the types of the columns of a text that is joined with another by these names, told from both
abbrev pub joined_types : CsvOptions → List ℕ → List ℕ → List Name → List Name → List TypeOf
joined_types options text other on other_on =
    types_with_keys options.types.items (records_of options.separator text)
    (records_of options.separator other) on other_on

-- the table that such a text is
abbrev pub joined_table : CsvOptions → List ℕ → List ℕ → List Name → List Name → Table
joined_table options text other on other_on =
    csv_table (joined_types options text other on other_on) (records_of options.separator text)

-- the text of a table in a form, with this byte between the fields of comma-separated values
abbrev pub text_in : TextForm → ℕ → Table → List ℕ
text_in Csv separator t = csv_text separator t
text_in Json separator t = text_of t
text_in (Layout width) separator t = encode_utf8_all (layout width t)

-- the text of a table, where it has one
abbrev pub written : TextForm → ℕ → Table → Result (List ℕ) FrontFault
written form separator t = unless (writing_fault form t) >>= λ _. Ok (text_in form separator t)

abbrev pub fault_of : PolarsError → FrontFault
fault_of cause.OutOfMemory = fault.OutOfMemory
fault_of e = fault.Refused e

-- what an operation answers is handed on: the text of its table, or its refusal
abbrev pub IsOutcome : TextForm → ℕ → Result (List Col) PolarsError
    → Result (List ℕ) FrontFault → Type 0
IsOutcome form separator (Ok t) result =
    Settles result (writing_fault form (table_of t))
    × IfOk result (λ s. s ≡ text_in form separator (table_of t))
IsOutcome form separator (Err e) result = result ≡ Err (fault_of e)
