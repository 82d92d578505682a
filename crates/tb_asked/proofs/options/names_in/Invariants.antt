use Rattle.std.proofs.Common.{◌≡◌, map, take}
use Rattle.tb_asked.proofs.options.names_in.Given as goal

abbrev pub invariant-loop-given : goal.invariant-loop-given
invariant-loop-given l = l.names.items ≡ map (λ t. t.name) (take l.given-index l.types)
