-- Lines of JSON that put rows in and take rows out.
use Rattle.std.specs.Prelude.{ℕ, ◌==◌, not, Bool, List, [], ◌∷◌, map, codes, if◌then◌else◌, Option, Some, None, is_some, option_map, option_and_then, Result, Ok, Err, ok_or, ⊤}
use Rattle.std.specs.List.{find}
use Rattle.std.specs.Result.{result_ok}
use Rattle.serde_json.specs.Data.{Data, Members, no_members, member}
use Rattle.serde_json.specs.Find.{as_object, as_str, get}
use Rattle.tb_value.specs.Promise.Datum.{Datum}
use Rattle.tb_value.specs.Promise.Datum as value
use Rattle.tb_value.specs.Promise.Kind.{Kind, Part}
use Rattle.tb_value.specs.Promise.Names.{Name}
use Rattle.tb_value.specs.Promise.Typed.{FitsFields}
use Rattle.tb_frame.specs.Promise.Naming.{is_among}
use Rattle.tb_date.specs.Promise.Dates.{date_in, is_date}
use Rattle.tb_csv.specs.Promise.Texts.{field_type}
use Rattle.tb_csv.specs.Promise.Types.{or_string}
use Rattle.tb_delta.specs.Promise.Steps.{Step, insert, remove}
use Rattle.tb_json.specs.Promise.Cells.{cell_in}
use Rattle.tb_json.specs.Promise.Lists.{has_only}
use Rattle.tb_request.specs.Promise.Reading.{value_of}
use Rattle.tb_request.specs.Promise.Members as request
use Rattle.tb_request.specs.Promise.Written.{count_of}
use Rattle.tb_delta_request.specs.Promise.Members.{remove_members}
use Rattle.tb_delta_request.specs.Promise.Written.{of_two, side_at}
use Rattle.tb_front.specs.declared.fault.FrontFault.{FrontFault}
use Rattle.tb_front.specs.declared.fault.FrontFault.TheVariants as fault
use Rattle.tb_front.specs.declared.fault.StepCause.TheVariants as cause
use Rattle.tb_front.specs.Promise.Due.{◌>>=◌, each_from, unless}

-- ---- lines

-- a byte put before the first line
abbrev pub onto : ℕ → List (List ℕ) → List (List ℕ)
onto c [] = (c ∷ []) ∷ []
onto c (l ∷ ls) = (c ∷ l) ∷ ls

-- what stands between the newlines of a text; behind the last newline a line stands only where there is a byte
abbrev pub lines_of : List ℕ → List (List ℕ)
lines_of [] = []
lines_of (c ∷ cs) = (if c == 10 then [] ∷ lines_of cs else onto c (lines_of cs))

-- ---- a row

-- a text that is a date, or a value as in requests
abbrev pub dated : Kind → Data → Option (List ℕ) → Option Datum
dated t d (Some s) = option_map value.int (date_in s)
dated t d None = cell_in t d

-- the value of a type that a field stands for: of a date its text too
abbrev pub field_in : Kind → Data → Option Datum
field_in t d = (if is_date t then dated t d (as_str d) else cell_in t d)

-- the row has no field for a column, or one that is not of the column's type
abbrev pub no_field : ℕ → Part → FrontFault
no_field n p = fault.Step n (cause.NoField p.0)

abbrev pub not_of_type : ℕ → Part → FrontFault
not_of_type n p = fault.Step n (cause.NotOfType p.0 (or_string (field_type p.1)))

-- the field of a row in the column of a name and a type
abbrev pub field_at : ℕ → Data → Part → Result Datum FrontFault
field_at n d p =
    ok_or (get p.0 d) (no_field n p) >>= λ f. ok_or (field_in p.1 f) (not_of_type n p)

-- the fields of a row in all columns, or why the first that isn't there or not of its type isn't
abbrev pub fields_in : ℕ → Data → List Part → Result (List Datum) FrontFault
fields_in n d ps = each_from (λ place. field_at n d) 0 ps

abbrev pub names_of : Members → List Name
names_of no_members = []
names_of (member n d ms) = n ∷ names_of ms

-- the first name of a member that is no column's
abbrev pub unknown_among : List Name → Option Members → Option Name
unknown_among known None = None
unknown_among known (Some ms) = find (λ n. not (is_among known n)) (names_of ms)

abbrev pub unknown_field : List Part → Data → Option Name
unknown_field ps d = unknown_among (map (λ (p : Part). p.0) ps) (as_object d)

abbrev pub no_step : ℕ → FrontFault
no_step n = fault.Step n cause.NoStep

abbrev pub only_if : ℕ → Bool → Result ⊤ FrontFault
only_if n b = (if b then Ok tt else Err (no_step n))

-- a row is an object whose members are a field in each column, and nothing else
unfoldable pub row_in : ℕ → List Part → Data → Result (List Datum) FrontFault
row_in n ps d = do
  known ← only_if n (is_some (as_object d))
  each ← unless (option_map (λ m. fault.Step n (cause.UnknownColumn m)) (unknown_field ps d))
  fields_in n d ps

-- ---- a step

-- a row that is put in has a value of each of its side's columns
abbrev pub Fits : List Part → List Part → Step → Type 0
Fits left right (insert side row) = FitsFields (of_two side left right) row
Fits left right (remove side id) = Unit {0}

unfoldable pub insert_in : List Part → List Part → ℕ → Data → Result Step FrontFault
insert_in left right n d = do
  known ← only_if n (has_only (codes "insert" ∷ codes "row" ∷ []) d)
  side ← ok_or (side_at (codes "insert") d) (no_step n)
  row ← ok_or (get (codes "row") d) (no_step n)
  fields ← row_in n (of_two side left right) row
  Ok (insert side fields)

unfoldable pub remove_in : ℕ → Data → Result Step FrontFault
remove_in n d = do
  known ← only_if n (has_only (request.names_of remove_members) d)
  side ← ok_or (side_at (codes "remove") d) (no_step n)
  id ← ok_or (option_and_then count_of (get (codes "id") d)) (no_step n)
  Ok (remove side id)

-- what has a member `insert` is an insert, and all else a removal
abbrev pub step_in : List Part → List Part → ℕ → Data → Result Step FrontFault
step_in left right n d =
    (if is_some (get (codes "insert") d) then insert_in left right n d else remove_in n d)

-- the step that the line of a number is, where the sides have columns of these names and types
abbrev pub step_of : List Part → List Part → ℕ → List ℕ → Result Step FrontFault
step_of left right n line =
    ok_or (result_ok (value_of line)) (fault.Step n cause.NotJson) >>= step_in left right n

-- the steps that the lines of a text are
abbrev pub steps_in : List Part → List Part → List ℕ → Result (List Step) FrontFault
steps_in left right text = each_from (step_of left right) 1 (lines_of text)
