-- The two sides of a join, each by itself.
use Rattle.std.specs.Prelude.{◌≡◌, List, [], ◌∷◌, map, Option, Some, None}
use Rattle.std.specs.declared.vec.Vec.{Vec}
use Rattle.tb_value.specs.Promise.Names.{Name}
use Rattle.tb_value.specs.declared.index.JoinPair.{JoinPair}
use Rattle.tb_chunk.specs.Promise.Col.{Col}
use Rattle.tb_frame.specs.Answer.{ArePairsOf}
use Rattle.tb_frame.specs.Frame.{opt_taken_rows}
use Rattle.tb_frame.specs.Promise.Join.{Request}

-- left columns over the left rows of pairs, and right ones over the right rows
abbrev pub AreOver : List JoinPair → List Col → List Col → List Col × List Col → Type 0
AreOver ps left right halves =
    (halves.0 ≡ map (opt_taken_rows (map (λ (p : JoinPair). p.left) ps)) left)
    × (halves.1 ≡ map (opt_taken_rows (map (λ (p : JoinPair). p.right) ps)) right)

-- the same over the listing of a request, ordered and then cut
pub record AreHalves (q : Request) (left right : List Col)
    (halves : List Col × List Col) : Type 0 where
  pub pairs : List JoinPair
  pub listed : ArePairsOf q pairs
  pub over : AreOver pairs left right halves

-- the names that are given, or that of the key where none are
abbrev pub dropped_names : {A : Type 0} → Name → Option (Vec Name A) → List Name
dropped_names key None = key ∷ []
dropped_names key (Some names) = names.items
