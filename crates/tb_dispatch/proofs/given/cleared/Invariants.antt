use Rattle.std.proofs.Common.{◌≡◌, map, take}
use Rattle.tb_dispatch.specs.Given.{emptied_column}
use Rattle.tb_dispatch.proofs.given.cleared.Given as goal

abbrev pub invariant-loop-key : goal.invariant-loop-key
invariant-loop-key l = l.emptied.items ≡ map emptied_column (take l.key-index l.fn.keys.items)
