use Rattle.std.proofs.Common.{◌≡◌, ◌++◌, length}
use Rattle.std.specs.List.{All, flat_map}
use Rattle.tb_csv.specs.Places.{IsFromLineEnd}
use Rattle.tb_csv.proofs.cuts.pieces_of.Given as goal

abbrev pub invariant-loop-rest : goal.invariant-loop-rest
invariant-loop-rest l = record {
  whole : flat_map (λ p. p.now) l.pieces.items ++ l.rest ≡ l.text;
  cut : All (λ p. IsFromLineEnd p.now) l.pieces.items;
  start : IsFromLineEnd l.rest;
}

abbrev pub decreases-loop-rest : goal.decreases-loop-rest
decreases-loop-rest l = length l.rest
