use Rattle.std.proofs.Common.{◌↔◌, drop}
use Rattle.std.specs.List.{All}
use Rattle.tb_value.specs.SeeKind.{kind_of}
use Rattle.tb_value.specs.Promise.Typed.{HasType}
use Rattle.tb_chunk.specs.Promise.Col.{concatenation}
use Rattle.tb_chunk.specs.Made.{lists_of}
use Rattle.tb_chunk.proofs.make.all_are_of.Given as goal

abbrev pub invariant-loop-chunk : goal.invariant-loop-chunk
invariant-loop-chunk l = All (HasType (kind_of l.dtype)) (concatenation (lists_of l.chunks)) ↔ All (HasType (kind_of l.dtype)) (concatenation (lists_of (drop l.chunk-index l.chunks)))
