use Rattle.std.proofs.Common.{◌≡◌, ◌-◌, ◌++◌, ℕ, List, None, length}
use Rattle.csv.specs.Records.{fields_of}
use Rattle.tb_csv.specs.Promise.Faults.{rows_fault}
use Rattle.tb_csv.specs.Left.{Leaves}
use Rattle.tb_csv.specs.Read.{all_fields}
use Rattle.tb_csv.specs.Promise.Records.{Line, form}
use Rattle.tb_csv.proofs.lines.read_rows.Given as goal

abbrev pub invariant-loop-turn : goal.invariant-loop-turn
invariant-loop-turn l =
    (separator : ℕ) (records : List Line) → Leaves (form separator) l.turns records l.initial.reader
    → (done : List Line) × (rest : List Line) × (records ≡ done ++ rest) × (length done ≡ l.turn) × Leaves (form separator) (l.turns - l.turn) rest l.reader
    × (fields_of l.fields ≡ fields_of l.initial.fields ++ all_fields done) × (rows_fault l.width 1 done ≡ None)
