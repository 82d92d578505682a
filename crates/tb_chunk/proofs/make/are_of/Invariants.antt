use Rattle.std.proofs.Common.{◌↔◌, map, drop}
use Rattle.std.specs.List.{All}
use Rattle.tb_value.specs.See.{datum}
use Rattle.tb_value.specs.SeeKind.{kind_of}
use Rattle.tb_value.specs.Promise.Typed.{HasType}
use Rattle.tb_chunk.proofs.make.are_of.Given as goal

-- the values that are left decide
abbrev pub invariant-loop-value : goal.invariant-loop-value
invariant-loop-value l = All (HasType (kind_of l.dtype)) (map datum l.values) ↔ All (HasType (kind_of l.dtype)) (map datum (drop l.value-index l.values))
