use Rattle.std.proofs.Common.{◌≡◌, ◌==◌, true, length, take}
use Rattle.std.specs.Prelude.{All}
use Rattle.std.specs.List.{list_all}
use Rattle.tb_chunk.specs.Promise.Col.{Col, values}
use Rattle.tb_frame.specs.Promise.Table.{IsTyped, plain_column}
use Rattle.tb_frame.proofs.frame.have_len.Given as goal

-- the columns so far have the length, and values of their types
abbrev pub invariant-loop-column : goal.invariant-loop-column
invariant-loop-column l = record {
  level : list_all (λ (c : Col). length (values c) == l.len) (take l.column-index l.columns) ≡ true;
  typed : All (λ (c : Col). IsTyped (plain_column c)) (take l.column-index l.columns);
}
