-- What a reader has left.
use Rattle.std.specs.Prelude.{◌≡◌, ℕ, Bool, List, [], ◌∷◌, Option, Some}
use Rattle.std.specs.Bool.{MatchBool}
use Rattle.std.specs.Borrow.{Bor}
use Rattle.csv.specs.Reading.{Ready, reader_config, reader_state, reader_trim, records_from, source_of}
use Rattle.csv.specs.declared.parser.Config.{Config}
use Rattle.csv.specs.declared.reader.Reader.{Reader}
use Rattle.csv.specs.declared.reader.Trim.TheVariants as trim
use Rattle.tb_csv.specs.Promise.Records.{Line}

-- the bytes of a slice are known
abbrev pub bytes_left : Bor (List ℕ) → Option (List ℕ)
bytes_left s = Some s.now

-- in at most so many turns the reader reads these records
abbrev pub Leaves : Config → ℕ → List Line → Reader (Bor (List ℕ)) → Type 0
Leaves form turns records r = (reader_trim r ≡ trim.None) × Ready r × (reader_config r ≡ form)
    × (rest : List ℕ)
    × (source_of bytes_left r ≡ Some rest)
    × (records_from form turns (reader_state r) rest ≡ records)

-- the next of the records was found, and the reader has the others left, or there is none
abbrev pub IsNext : Config → ℕ → List Line → Bool → Line → Reader (Bor (List ℕ)) → Type 0
IsNext form turns records found row r =
    MatchBool found ((others : List Line) × (records ≡ row ∷ others) × Leaves form turns others r)
    (records ≡ [])
