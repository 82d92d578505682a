-- The right columns of an answer.
use Rattle.std.specs.Prelude.{ℕ, List, Option, unwrap_or}
use Rattle.tb_value.specs.Promise.Names.{Name}
use Rattle.tb_chunk.specs.Promise.Col.{Col}
use Rattle.tb_frame.specs.declared.args.JoinArgs.{JoinArgs}
use Rattle.tb_frame.specs.Promise.Naming.{default_suffix}
use Rattle.tb_frame.specs.RightColumns.{gone_right, right_columns, right_side}

-- those of a join with these arguments, beside left columns of these names
abbrev pub columns_beside : JoinArgs → List Name → List (Option ℕ) → List Name → List Col → List Col
columns_beside a right_on rows taken cs = right_columns taken (unwrap_or a.suffix default_suffix)
    (gone_right a right_on) rows (right_side a.how cs)
