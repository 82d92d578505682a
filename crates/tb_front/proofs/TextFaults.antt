-- The faults and the names of texts that are read.
use Rattle.std.proofs.Common.{◌≡◌, ◌∷◌, [], ℕ, List, Option, Some, refl, sym, ap, ◌∙◌}
use mathlib.Core.Logic.{◌⊎◌, inl, inr}
use Rattle.tb_value.specs.Promise.Names.{Name}
use Rattle.tb_csv.specs.Promise.LineNumbers.{fault_line}
use Rattle.tb_csv.specs.Promise.Records.{Record, line_of}
use Rattle.tb_csv.specs.Read.{IsRead}
use Rattle.tb_csv.specs.declared.fault.CsvFault.{CsvFault}
use Rattle.tb_csv.specs.declared.fault.CsvFault.TheVariants as csv
use Rattle.tb_csv.specs.declared.records.Records.{Records}
use Rattle.tb_front.specs.declared.fault.FrontFault.{FrontFault}
use Rattle.tb_front.specs.declared.fault.FrontFault.TheVariants.{NoTable, OutOfMemory}
use Rattle.tb_front.specs.declared.fault.Place.{Place}
use Rattle.tb_front.specs.Promise.Faults.{names_in, no_table}
use Rattle.tb_front.specs.Texts.{fault_in}

module _ (separator : ℕ) (place : Place) (text : List ℕ) where
  fault_cases : (e : CsvFault) → (fault_in separator place text e ≡ OutOfMemory) ⊎ (fault_in separator place text e ≡ NoTable place e (fault_line separator text e))
  fault_cases csv.OpenQuote = inr refl
  fault_cases csv.Empty = inr refl
  fault_cases (csv.NotUtf8 i) = inr refl
  fault_cases (csv.RepeatedName n) = inr refl
  fault_cases (csv.FieldCount i n m) = inr refl
  fault_cases csv.TooManyRows = inr refl
  fault_cases (csv.NotOfType i c t) = inr refl
  fault_cases (csv.NoText n) = inr refl
  fault_cases csv.OutOfMemory = inl refl

  -- the fault of a text is handed on with its line
  pub fault_settles : (cause : Option CsvFault) (e : CsvFault) → (e ≡ csv.OutOfMemory) ⊎ (cause ≡ Some e)
      → (fault_in separator place text e ≡ OutOfMemory) ⊎ (no_table separator place text cause ≡ Some (fault_in separator place text e))
  fault_settles cause e (inl want) = inl (ap (fault_in separator place text) want)
  fault_settles cause e (inr is) = elim (fault_cases e) [
    | inl want ↦ inl want
    | inr same ↦ inr (ap (no_table separator place text) is ∙ ap Some (sym same))
  ]

pub names_are : (r : Records) (rs : List Record) (names : List Name) → ((n : Record) (rows : List Record) → IsRead r (n ∷ rows) → names ≡ line_of n) → IsRead r rs → names ≡ names_in rs
names_are r [] names each h = absurd h
names_are r (n ∷ rows) names each h = each n rows h
