use Rattle.std.proofs.Common.{◌≡◌, ◌≢◌, ◌++◌, ℕ, List, length}
use Rattle.csv.specs.Machine.{line_feed}
use Rattle.tb_csv.specs.Places.{IsFromLineEnd}
use Rattle.tb_csv.specs.Read.{AreRunsOf}
use Rattle.tb_csv.proofs.runs.runs_of.Given as goal

abbrev pub invariant-loop-rest : goal.invariant-loop-rest
invariant-loop-rest l = l.separator ≢ line_feed → IsFromLineEnd l.piece
    → (done : List ℕ) × (done ++ l.rest ≡ l.piece) × IsFromLineEnd l.rest × AreRunsOf l.separator l.width done l.runs.items

abbrev pub decreases-loop-rest : goal.decreases-loop-rest
decreases-loop-rest l = length l.rest
