use Rattle.std.proofs.Common.{◌∙◌, ap}
use Rattle.tb_value.specs.SeeKind.{kind_of}
use Rattle.tb_chunk.specs.Lent.{lent_columns}
use Rattle.tb_frame.specs.Promise.Table.{plain_column}
use Rattle.tb_unpivot.proofs.Lists.{repeated_few, repeated_made, repeated_typed}
use Rattle.tb_unpivot.proofs.columns.repeated.Goals as goal

pub stack-requires-clause-few : goal.stack-requires-clause-few
stack-requires-clause-few c =
    repeated_few c.deref.result.now c.args.times c.args.column.now (ap lent_columns c.deref.ensures.value ∙ c.in_ok-lent.ensures) c.requires

pub stack-requires-clause-typed : goal.stack-requires-clause-typed
stack-requires-clause-typed c =
    repeated_typed c.deref.result.now c.args.times c.args.column.now (kind_of c.in_ok-dtype.dtype) (ap lent_columns c.deref.ensures.value ∙ c.in_ok-lent.ensures) (c.in_ok-dtype.ensures ∙ c.dtype.ensures) c.len-len.ensures.column

pub returns : goal.returns
returns c =
    ap plain_column c.into_column.ensures
    ∙ repeated_made c.in_ok-stack.field-0 c.args.column.now _ _ c.deref.result.now c.args.times c.in_ok-stack.ensures (c.in_ok-name.ensures ∙ c.name.ensures) (c.in_ok-dtype.ensures ∙ c.dtype.ensures) (ap lent_columns c.deref.ensures.value ∙ c.in_ok-lent.ensures) c.len-len.ensures.column
