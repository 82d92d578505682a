use Rattle.std.proofs.Common.{◌≡◌, drop}
use Rattle.tb_value.specs.Promise.Kind as kind
use Rattle.tb_value.specs.SeeKind.{kind_of}
use Rattle.tb_chunk.specs.Lent.{lent_columns}
use Rattle.tb_frame.specs.Promise.Table.{table_of}
use Rattle.tb_unpivot.specs.Promise.Unpivot.{common_kind}
use Rattle.tb_unpivot.proofs.lookup.common_type.Given as goal

-- what is left to be taken gives the same
abbrev pub invariant-loop-column : goal.invariant-loop-column
invariant-loop-column l = common_kind kind.null (table_of (lent_columns l.columns)) ≡ common_kind (kind_of l.dtype) (table_of (lent_columns (drop l.column-index l.columns)))
