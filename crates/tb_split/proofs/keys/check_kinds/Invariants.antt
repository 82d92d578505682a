use Rattle.std.proofs.Common.{◌≡◌, None, not}
use Rattle.std.specs.List.{find}
use Rattle.tb_value.specs.Promise.Pairs.{row_numbers}
use Rattle.tb_value.specs.Promise.SameKind.{is_key}
use Rattle.tb_frame.specs.Promise.Refusal.{kind_at}
use Rattle.tb_frame.specs.Promise.Table.{table_of}
use Rattle.tb_chunk.specs.Lent.{lent_columns}
use Rattle.tb_split.proofs.keys.check_kinds.Given as goal

abbrev pub invariant-loop-place : goal.invariant-loop-place
invariant-loop-place l = find (λ p. not (is_key (kind_at (table_of (lent_columns l.columns)) p))) (row_numbers l.place) ≡ None
