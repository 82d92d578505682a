-- Which parts the table of a text has, why there are none, and their texts.
use Rattle.std.specs.Prelude.{ℕ, pos, List, [], ◌∷◌, map, Option, Some, None}
use Rattle.tb_value.specs.Promise.Datum.{int}
use Rattle.tb_value.specs.Promise.Kind as kind
use Rattle.tb_value.specs.Promise.Names.{Name}
use Rattle.tb_value.specs.Promise.Pairs.{row_numbers}
use Rattle.tb_value.specs.Promise.Refusals.{first_cause, when}
use Rattle.tb_value.specs.declared.error.PolarsError.{PolarsError}
use Rattle.tb_value.specs.declared.error.PolarsError.TheVariants.{Duplicate}
use Rattle.tb_frame.specs.Promise.Naming.{is_among}
use Rattle.tb_frame.specs.Promise.Table.{Table, TableColumn, height, names_of}
use Rattle.tb_csv.specs.Promise.Texts.{csv_text}
use Rattle.tb_csv.specs.declared.options.CsvOptions.{CsvOptions}
use Rattle.tb_split.specs.Promise.Split.{split_refusal, split_table}
use Rattle.tb_front.specs.declared.fault.FrontFault.{FrontFault}
use Rattle.tb_front.specs.declared.options.TextForm.TheVariants.{Csv}
use Rattle.tb_front.specs.Promise.Asked.{table_fault, table_faults}
use Rattle.tb_front.specs.Promise.Texts.{table_in}
use Rattle.tb_split_front.specs.declared.call.SplitCall.{SplitCall}

-- the numbers of so many rows, in a column of this name
abbrev pub number_column : Name → ℕ → TableColumn
number_column n rows =
    record { name = n; kind = kind.uint32; values = map (λ i. int (pos i)) (row_numbers rows) }

-- a table behind the numbers of its rows, where a name is given for them
abbrev pub numbered : Option Name → Table → Table
numbered None t = t
numbered (Some n) t = number_column n (height t) ∷ t

-- a column has that name
abbrev pub number_refusal : Option Name → Table → Option PolarsError
number_refusal None t = None
number_refusal (Some n) t = when (is_among (names_of t) n) (Duplicate n)

-- part p of a table, and its text
abbrev pub part_table : SplitCall → Table → ℕ → Table
part_table c t p = split_table (numbered c.number t) c.on.items c.parts p

abbrev pub part_text : ℕ → SplitCall → Table → ℕ → List ℕ
part_text separator c t p = csv_text separator (part_table c t p)

-- why a table has no parts
abbrev pub parting_refusal : SplitCall → Table → Option PolarsError
parting_refusal c t = first_cause
    (number_refusal c.number t ∷ split_refusal (numbered c.number t) c.on.items ∷ [])

-- or why they have no texts: each has the names and types of the table with its numbers
abbrev pub split_faults : SplitCall → Table → List (Option FrontFault)
split_faults c t = table_faults Csv (parting_refusal c t) (numbered c.number t)

-- the text is no table, or its table has no such parts
abbrev pub split_fault : CsvOptions → SplitCall → List ℕ → Option FrontFault
split_fault o c text = first_cause (table_fault o text ∷ split_faults c (table_in o text))
