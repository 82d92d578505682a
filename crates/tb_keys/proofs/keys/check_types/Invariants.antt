use Rattle.std.proofs.Common.{◌≡◌, None, not}
use Rattle.std.specs.List.{find}
use Rattle.tb_value.specs.Promise.Pairs.{row_numbers}
use Rattle.tb_value.specs.Promise.SameKind.{same_kind}
use Rattle.tb_frame.specs.Promise.Refusal.{kind_at}
use Rattle.tb_frame.specs.Promise.Table.{table_of}
use Rattle.tb_chunk.specs.Lent.{lent_columns}
use Rattle.tb_keys.proofs.keys.check_types.Given as goal

-- the types at the places so far are the same
abbrev pub invariant-loop-place : goal.invariant-loop-place
invariant-loop-place l = find (λ p. not (same_kind (kind_at (table_of (lent_columns l.request.left_keys.now)) p) (kind_at (table_of (lent_columns l.request.right_keys.now)) p)))
    (row_numbers l.place) ≡ None
