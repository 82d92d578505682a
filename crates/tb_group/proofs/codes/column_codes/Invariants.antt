use Rattle.std.proofs.Common.{◌≡◌, ◌∷◌, []}
use Rattle.tb_build.specs.Plan.{codes_of}
use Rattle.tb_frame.specs.Promise.Table.{plain_column}
use Rattle.tb_group.specs.Codes.{codes_by, own_code}
use Rattle.tb_group.proofs.codes.column_codes.Given as goal

abbrev pub invariant-loop-row : goal.invariant-loop-row
invariant-loop-row l = codes_of own_code l.codes.items ≡ codes_by (plain_column l.column ∷ []) l.row
