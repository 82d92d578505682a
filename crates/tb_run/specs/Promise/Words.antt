-- The forms of the program's words.
use Rattle.std.specs.Prelude.{ℕ, nat_le, Bool, false, ◌&&◌, List, [], ◌∷◌, codes, Option, Some, None, if◌then◌else◌}
use Rattle.std.specs.Char.{is_digit}
use Rattle.std.specs.List.{list_all}
use Rattle.std.specs.Str.{bytes_eq}
use Rattle.std.specs.Str.Parse.{digits_value}
use Rattle.tb_run.specs.declared.words.Command.{Command}
use Rattle.tb_run.specs.declared.words.Command.TheVariants.{Join, Unpivot, Dummies, Pivot, Plan, Delta, Group}
use Rattle.tb_run.specs.declared.words.Form.{Form}
use Rattle.tb_run.specs.declared.words.Form.TheVariants.{Reads, Sample, Unknown}

-- the command of this name
abbrev pub command : List ℕ → Option Command
command word =
    if bytes_eq word (codes "join") then Some Join
    else if bytes_eq word (codes "unpivot") then Some Unpivot
    else if bytes_eq word (codes "dummies") then Some Dummies
    else if bytes_eq word (codes "pivot") then Some Pivot
    else if bytes_eq word (codes "plan") then Some Plan
    else if bytes_eq word (codes "delta") then Some Delta
    else if bytes_eq word (codes "group") then Some Group
    else None

abbrev pub form_of_one : Option Command → Form
form_of_one None = Unknown
form_of_one (Some c) = Reads c

-- a number in decimal, with no sign and no 0 before it
abbrev pub begins_plainly : List ℕ → Bool
begins_plainly [] = false
begins_plainly (digit ∷ digits) = nat_le 49 digit && nat_le digit 57

abbrev pub is_plain_number : List ℕ → Bool
is_plain_number word = begins_plainly word && list_all (λ digit. is_digit digit 10) word

-- the number of rows of a sample that a word asks for, from 1 to 2,000,000
abbrev pub in_bounds : ℕ → Option ℕ
in_bounds rows = if nat_le 1 rows && nat_le rows 2000000 then Some rows else None

abbrev pub sample_rows : List ℕ → Option ℕ
sample_rows word = if is_plain_number word then in_bounds (digits_value 10 word) else None

abbrev pub form_of_sample : Option ℕ → Form
form_of_sample None = Unknown
form_of_sample (Some rows) = Sample rows

-- one word that names a command, or `sample` and a number of rows; else the words have no form
abbrev pub form : List (List ℕ) → Form
form (word ∷ []) = form_of_one (command word)
form (word ∷ rows ∷ []) = if bytes_eq word (codes "sample") then form_of_sample (sample_rows rows) else Unknown
form words = Unknown
