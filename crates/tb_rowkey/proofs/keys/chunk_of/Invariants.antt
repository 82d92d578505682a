use Rattle.std.proofs.Common.{◌≡◌, take}
use Rattle.tb_chunk.specs.Layout.{building_of}
use Rattle.tb_rowkey.proofs.keys.chunk_of.Given as goal

-- the keys of the rows so far
abbrev pub invariant-loop-row : goal.invariant-loop-row
invariant-loop-row l = l.builder ≡ building_of (take l.row l.keys)
