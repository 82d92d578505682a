use Rattle.std.proofs.Common.{◌≡◌, ◌+◌, ◌≤◌, length, drop}
use Rattle.tb_value.specs.declared.limits.TheConstants.{MAX_ROWS}
use Rattle.tb_chunk.specs.Promise.Col.{concatenation}
use Rattle.tb_chunk.specs.Made.{lists_of}
use Rattle.tb_chunk.proofs.make.is_short.Given as goal

abbrev pub invariant-loop-chunk : goal.invariant-loop-chunk
invariant-loop-chunk l = (length (concatenation (lists_of l.chunks)) + l.room ≡ length (concatenation (lists_of (drop l.chunk-index l.chunks))) + MAX_ROWS) × (l.room ≤ MAX_ROWS)
