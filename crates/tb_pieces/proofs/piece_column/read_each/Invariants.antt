use Rattle.std.proofs.Common.{◌-◌, ◌≤◌, drop, map, take}
use Rattle.std.specs.List.{FoldsTo}
use Rattle.tb_chunk.specs.Promise.Col.{concatenation}
use Rattle.tb_pieces.proofs.piece_column.read_each.Given as goal

abbrev pub invariant-loop-row : goal.invariant-loop-row
invariant-loop-row g l =
    let vs = concatenation (map g.C.Chunk.shown l.chunks) in
    record {
      from : l.start ≤ l.row;
      to : l.row ≤ l.end;
      rest : (last : _)
          → FoldsTo (λ before v after. g.R.ReadValue.gives l.reader v before tt after) l.state (take (l.end - l.row) (drop l.row vs)) last
          → FoldsTo (λ before v after. g.R.ReadValue.gives l.reader v before tt after) l.fn.state (take (l.end - l.start) (drop l.start vs)) last;
    }
