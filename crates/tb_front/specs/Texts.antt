-- The records of texts, and their faults.
use Rattle.std.specs.Prelude.{◌≡◌, ◌<◌, ℕ, List, [], length, Option, Some, None, IfOk, Result}
use Rattle.std.specs.declared.alloc.Global.{Global}
use Rattle.std.specs.declared.vec.Vec.{Vec}
use Rattle.tb_csv.specs.Promise.LineNumbers.{fault_line}
use Rattle.tb_csv.specs.Promise.Records.{records_of}
use Rattle.tb_csv.specs.Read.{IsLevel, IsRead}
use Rattle.tb_csv.specs.declared.fault.CsvFault.{CsvFault}
use Rattle.tb_csv.specs.declared.fault.CsvFault.TheVariants as csv
use Rattle.tb_csv.specs.declared.options.CsvOptions.{CsvOptions}
use Rattle.tb_csv.specs.declared.options.TypeOf.{TypeOf}
use Rattle.tb_csv.specs.declared.records.Records.{Records}
use Rattle.tb_front.specs.Promise.Faults.{Settles, no_records}
use Rattle.tb_front.specs.declared.fault.FrontFault.{FrontFault}
use Rattle.tb_front.specs.declared.fault.FrontFault.TheVariants.{NoTable, OutOfMemory}
use Rattle.tb_front.specs.declared.fault.Place.{Place}

-- a fault of the text at a place, with its line, or want of memory
abbrev pub fault_in : ℕ → Place → List ℕ → CsvFault → FrontFault
fault_in separator place text csv.OutOfMemory = OutOfMemory
fault_in separator place text e = NoTable place e (fault_line separator text e)

-- the records of the text at a place, or why there are none
pub record AreRecordsAt (o : CsvOptions) (p : Place) (text : List ℕ) (r : Result Records FrontFault)
    : Type 0 where
  pub settles : Settles r (no_records o p text)
  pub read : IfOk r (λ x. IsRead x (records_of o.separator text))
  pub level : IfOk r IsLevel

-- no type is given, and no field is too long for a text: so each field is of the type that its column is told
abbrev pub AreTold : List TypeOf → List ℕ → List ℕ → Type 0
AreTold types left right =
    (types ≡ []) × (length left < 4294967296) × (length right < 4294967296)

-- a text was kept, or no fault can be told of it
abbrev pub IsKept : Option (Vec ℕ Global) → List ℕ → Option CsvFault → Type 0
IsKept None bytes fault = fault ≡ None
IsKept (Some text) bytes fault = text.items ≡ bytes
