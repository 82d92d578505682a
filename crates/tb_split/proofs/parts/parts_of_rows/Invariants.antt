use Rattle.std.proofs.Common.{◌≡◌, ◌<◌, map, take}
use Rattle.std.specs.Prelude.{All}
use Rattle.tb_split.specs.Keys.{bytes_part}
use Rattle.tb_split.proofs.parts.parts_of_rows.Given as goal

abbrev pub invariant-loop-row : goal.invariant-loop-row
invariant-loop-row l = record {
  numbers : l.numbers.items ≡ map (bytes_part l.parts) (take l.row l.keys);
  below : All (λ x. x < l.parts) l.numbers.items;
}
