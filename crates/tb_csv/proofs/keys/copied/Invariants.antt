use Rattle.std.proofs.Common.{◌≡◌, take}
use Rattle.tb_csv.proofs.keys.copied.Given as goal

abbrev pub invariant-loop-given : goal.invariant-loop-given
invariant-loop-given l = l.copies.items ≡ take l.given-index l.types
