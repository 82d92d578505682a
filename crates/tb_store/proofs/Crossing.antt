-- Columns may be sent to other threads, and lent to them.
use denote.Param.Send.{IsSend, IsSync, sendable}
use denote.Param.SendFields.{declared_send, declared_sync, as_row_send, as_row_sync}
use Rattle.std.proofs.Crossing.{crosses}
use Rattle.tb_value.proofs.Crossing.{DataType-send, DataType-sync}
use Rattle.tb_chunk.proofs.Crossing.{Chunks-send, Chunks-sync}
use Rattle.tb_store.specs.contracts.series.Series as Series
use Rattle.tb_store.specs.contracts.series.Series.TheInside as Fields
use Rattle.tb_store.specs.contracts.column.Column as Column

fields_send : IsSend Fields.the_row
fields_send = declared_send Fields.the_type (search (as_row_send, crosses, sendable) depth 60, (DataType-send, (Chunks-send, (search (as_row_send, crosses, sendable) depth 60, tt))))

fields_sync : IsSync Fields.the_row
fields_sync = declared_sync Fields.the_type (search (as_row_sync, crosses, sendable) depth 60, (DataType-sync, (Chunks-sync, (search (as_row_sync, crosses, sendable) depth 60, tt))))

pub Series-send : IsSend Series.the_row
Series-send = search (fields_send, sendable)

pub Series-sync : IsSync Series.the_row
Series-sync = search (fields_sync, sendable)

pub Column-send : IsSend Column.the_row
Column-send = search (Series-send, sendable) depth 20

pub Column-sync : IsSync Column.the_row
Column-sync = search (Series-sync, sendable) depth 20
