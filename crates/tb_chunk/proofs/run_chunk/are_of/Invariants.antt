use Rattle.std.proofs.Common.{◌↔◌, map, drop}
use Rattle.std.specs.List.{All}
use Rattle.tb_value.specs.See.{datum}
use Rattle.tb_value.specs.SeeKind.{kind_of}
use Rattle.tb_value.specs.Promise.Typed.{HasType}
use Rattle.tb_chunk.proofs.run_chunk.are_of.Given as goal

-- the values that are left decide
abbrev pub invariant-loop-value : goal.invariant-loop-value
invariant-loop-value l = All (HasType (kind_of l.dtype)) (map (λ r. datum r.0) l.runs) ↔ All (HasType (kind_of l.dtype)) (map (λ r. datum r.0) (drop l.value-index l.runs))
