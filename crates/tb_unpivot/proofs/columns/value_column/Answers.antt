use Rattle.std.proofs.Common.{◌∙◌, ap}
use Rattle.tb_value.specs.SeeKind.{kind_of}
use Rattle.tb_chunk.specs.Lent.{lent_columns}
use Rattle.tb_frame.specs.Promise.Table.{plain_column}
use Rattle.tb_unpivot.proofs.Lists.{value_is}
use Rattle.tb_unpivot.proofs.columns.value_column.Goals as goal

pub returns : goal.returns
returns c = ap plain_column c.into_column.ensures ∙ value_is c.args.name (kind_of c.args.dtype) (lent_columns c.args.columns.now) c.in_ok-stack.field-0 c.in_ok-stack.ensures
