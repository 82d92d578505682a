use Rattle.std.proofs.Common.{◌≡◌, ◌++◌, take, map}
use Rattle.tb_value.specs.Promise.Pairs.{both}
use Rattle.tb_alone.proofs.listing.push_matches.Given as goal

-- the pairs of the rows so far stand behind the others
abbrev pub invariant-loop-row : goal.invariant-loop-row
invariant-loop-row l = l.pairs.items ≡ l.initial.pairs.items ++ map (both l.left) (take l.row-index l.rows)
