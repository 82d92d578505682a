use Rattle.std.proofs.Common.{◌≡◌, map}
use Rattle.std.specs.List.{All}
use Rattle.std.specs.Option.{ForSome}
use Rattle.tb_chunk.specs.Promise.Col.{Col}
use Rattle.tb_frame.specs.NamedColumns.{column_by}
use Rattle.tb_join.specs.AnswerColumns.{Fits, filled_column}
use Rattle.tb_join.proofs.coalescing.all_filled_up.Given as goal

-- the columns so far are filled up, and those that are left can be
abbrev pub invariant-loop-column : goal.invariant-loop-column
invariant-loop-column l = record {
  filled : l.filled.items ≡ map (λ (c : Col). filled_column (column_by l.others c.name) c) l.yielded;
  left : All (λ (c : Col). ForSome (column_by l.others c.name) (Fits c)) l.column-iterator.rest.items;
}
