use Rattle.tb_value.specs.See.{data_of}
use Rattle.tb_value.specs.SeeKind.{kind_of}
use Rattle.tb_chunk.specs.Made.{lists_of}
use Rattle.tb_delta.proofs.TablesNow.{of_list}
use Rattle.tb_delta.proofs.tables.column_of.Goals as goal

pub returns-clause-column : goal.returns-clause-column
returns-clause-column c =
    of_list c.from_chunks.result c.as_str.result.now c.args.field.now.name (kind_of c.in_ok-dtype.dtype) (kind_of c.args.field.now.dtype) (data_of c.args.values.items) (lists_of c.in_ok-chunks.chunks.items)
    c.as_str.ensures c.in_ok-dtype.ensures c.in_ok-chunks.ensures c.from_chunks.ensures
