use Rattle.std.proofs.Common.{◌≡◌, false}
use Rattle.std.specs.List.{list_any}
use Rattle.tb_value.specs.Promise.Pairs.{row_numbers}
use Rattle.tb_frame.specs.Promise.Join.{flag_at}
use Rattle.tb_frame.specs.Promise.Refusal.{are_twins}
use Rattle.tb_frame.specs.Promise.Table.{table_of}
use Rattle.tb_chunk.specs.Lent.{lent_columns}
use Rattle.tb_keys.proofs.validation.has_twins.Given as goal

abbrev pub invariant-loop-i : goal.invariant-loop-i
invariant-loop-i l = list_any (λ i. list_any (are_twins (flag_at l.nulls) (table_of (lent_columns l.keys)) i) (row_numbers l.n)) (row_numbers l.i) ≡ false
