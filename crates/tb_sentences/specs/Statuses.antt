-- The exit statuses where there is no answer.
use Rattle.std.specs.Prelude.{ℕ}
use Rattle.tb_csv.specs.declared.fault.CsvFault.{CsvFault}
use Rattle.tb_csv.specs.declared.fault.CsvFault.TheVariants.{TooManyRows}
use Rattle.tb_front.specs.declared.fault.FrontFault.{FrontFault}
use Rattle.tb_front.specs.declared.fault.FrontFault.TheVariants as front
use Rattle.tb_front.specs.declared.fault.Place.{Place}
use Rattle.tb_front.specs.declared.fault.Place.TheVariants.{First, Second, Named}
use Rattle.tb_front.specs.declared.fault.StepCause.{StepCause}
use Rattle.tb_front.specs.declared.fault.StepCause.TheVariants.{Full, NoRow}
use Rattle.tb_words.specs.Words.{word_status}
use Rattle.tb_sentences.specs.declared.failure.Failure.{Failure}
use Rattle.tb_sentences.specs.declared.failure.Failure.TheVariants.{Words, Front, NoAnswer, Reading, Writing, TooLong, OutOfMemory}

-- a text is no table
abbrev pub table_status : CsvFault → ℕ
table_status TooManyRows = 6
table_status _ = 3

-- a line is no step, or its step isn't done
abbrev pub step_status : StepCause → ℕ
step_status Full = 1
step_status (NoRow side id) = 1
step_status _ = 3

-- words that no table has are 2, texts that can't be read 3, want of memory 6, and what an operation refuses 1
abbrev pub front_status : FrontFault → ℕ
front_status (front.NoTable place fault line) = table_status fault
front_status (front.Step line cause) = step_status cause
front_status (front.NoPlan part) = 3
front_status (front.UnknownType name) = 2
front_status (front.RepeatedTable name) = 2
front_status (front.UnknownTable name) = 2
front_status front.OutOfMemory = 6
front_status _ = 1

abbrev pub status_of : Failure → ℕ
status_of (Words fault) = word_status fault
status_of (Front failure) = front_status failure.fault
status_of (NoAnswer file) = 3
status_of (Reading file error) = 4
status_of (Writing file error) = 5
status_of OutOfMemory = 6
status_of (TooLong file) = 7

-- the place of the file that a fault is about, among those of its command
abbrev pub place_of : FrontFault → ℕ
place_of (front.NoTable First fault line) = 0
place_of (front.NoTable Second fault line) = 1
place_of (front.NoTable (Named number) fault line) = number
place_of (front.Step line cause) = 2
place_of _ = 0
