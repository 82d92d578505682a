use Rattle.std.proofs.Common.{◌≡◌, map, take}
use Rattle.tb_chunk.specs.Promise.Col.{Col}
use Rattle.tb_frame.specs.Frame.{without_names}
use Rattle.tb_unpivot.proofs.lookup.other_names.Given as goal

-- the names so far that are not in the index
abbrev pub invariant-loop-column : goal.invariant-loop-column
invariant-loop-column l = l.names.items ≡ map (λ (c : Col). c.name) (without_names l.fn.index (take l.column-index l.columns))
