-- Why there is no text of an answer: the first fault that holds.
use Rattle.std.specs.Prelude.{◌≡◌, ◌⊎◌, ◌||◌, not, ℕ, List, [], ◌∷◌, map, Option, Some, None, option_map, Result, MatchResult}
use Rattle.std.specs.List.{find}
use Rattle.tb_value.specs.Promise.Kind.{Kind}
use Rattle.tb_value.specs.Promise.Names.{Name}
use Rattle.tb_value.specs.Promise.Refusals.{SettlesBut, first_cause, when}
use Rattle.tb_value.specs.Promise.SameKind.{same_kind}
use Rattle.tb_value.specs.declared.error.PolarsError.{PolarsError}
use Rattle.tb_frame.specs.Promise.Join.{column_named}
use Rattle.tb_frame.specs.Promise.Naming.{is_among}
use Rattle.tb_frame.specs.Promise.Table.{Table, TableColumn}
use Rattle.tb_csv.specs.Promise.Faults.{text_fault, types_fault}
use Rattle.tb_csv.specs.Promise.LineNumbers.{fault_line}
use Rattle.tb_csv.specs.Promise.Records.{Record, line_of, records_of}
use Rattle.tb_csv.specs.Promise.Texts.{field_type, text_refusal}
use Rattle.tb_csv.specs.Promise.Types.{or_string}
use Rattle.tb_csv.specs.declared.fault.CsvFault.{CsvFault}
use Rattle.tb_csv.specs.declared.options.CsvOptions.{CsvOptions}
use Rattle.tb_csv.specs.declared.options.TypeOf.{TypeOf}
use Rattle.tb_front.specs.declared.options.TextForm.{TextForm}
use Rattle.tb_front.specs.declared.options.TextForm.TheVariants.{Csv, Json, Layout}
use Rattle.tb_front.specs.declared.fault.FrontFault.{FrontFault}
use Rattle.tb_front.specs.declared.fault.FrontFault.TheVariants.{NoTable, UnknownType, KeyTypes, Refused, NoText, OutOfMemory}
use Rattle.tb_front.specs.declared.fault.Place.{Place}

-- A call settles a fault: it passes exactly where there is none, and else refuses by it. Want of memory may come at any time.
abbrev pub Settles : {T : Type 0} → Result T FrontFault → Option FrontFault → Type 0
Settles r fault = SettlesBut OutOfMemory r fault

-- TEXTS

-- the text at a place is no table by this fault, which has the line on which it stands
abbrev pub no_table : ℕ → Place → List ℕ → Option CsvFault → Option FrontFault
no_table separator place text fault =
    option_map (λ e. NoTable place e (fault_line separator text e)) fault

-- why the text at a place is no records
abbrev pub no_records : CsvOptions → Place → List ℕ → Option FrontFault
no_records options place text =
    no_table options.separator place text (text_fault options.separator text)

-- why its records are no table of these types
abbrev pub no_types : CsvOptions → Place → List ℕ → List TypeOf → Option FrontFault
no_types options place text types =
    no_table options.separator place text (types_fault types (records_of options.separator text))

-- the names of the columns of records
abbrev pub names_in : List Record → List Name
names_in [] = []
names_in (names ∷ rows) = line_of names

-- the first name of a type that is neither among these names nor among the others
abbrev pub unknown_type : List TypeOf → List Name → List Name → Option FrontFault
unknown_type types names others =
    option_map (λ (t : TypeOf). UnknownType t.name)
    (find (λ (t : TypeOf). not (is_among names t.name || is_among others t.name)) types)

-- KEYS

-- the columns of a key are of different types
abbrev pub clash : Option TableColumn → Option TableColumn → Option FrontFault
clash (Some l) (Some r) = when (not (same_kind l.kind r.kind))
    (KeyTypes l.name (or_string (field_type l.kind)) r.name (or_string (field_type r.kind)))
clash _ _ = None

-- the first key whose columns are, of those of these names, each beside the one at its place
abbrev pub key_clash : Table → Table → List Name → List Name → Option FrontFault
key_clash left right (n ∷ ns) (m ∷ ms) = first_cause
    (clash (column_named left n) (column_named right m) ∷ key_clash left right ns ms ∷ [])
key_clash left right _ _ = None

-- ANSWERS

-- why the operation refuses
abbrev pub refusal_fault : Option PolarsError → Option FrontFault
refusal_fault cause = option_map (λ e. Refused e) cause

-- why a table has no text in a form
abbrev pub writing_fault : TextForm → Table → Option FrontFault
writing_fault Csv t = option_map (λ e. NoText e) (text_refusal t)
writing_fault Json t = None
writing_fault (Layout width) t = None

-- a table of these names and types, without rows
abbrev pub empty_table : List (Name × Kind) → Table
empty_table schema =
    map (λ (s : Name × Kind). record { name = s.0; kind = s.1; values = [] }) schema
