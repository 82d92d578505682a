-- Values and types may be sent to other threads, and lent to them.
use denote.Param.Send.{IsSend, IsSync, sendable}
use Rattle.std.proofs.Crossing.{crosses}
use Rattle.tb_value.specs.contracts.any_value.Values as Values
use Rattle.tb_value.specs.contracts.dtype.DataType as DataType
use Rattle.tb_value.proofs.any_value.Values.TheLaws.TheKnot as values
use Rattle.tb_value.proofs.dtype.DataType.TheLaws.TheKnot as types

pub Values-send : IsSend Values.the_row
Values-send = search (crosses, values.crosses, sendable) depth 60 fits 20000

pub Values-sync : IsSync Values.the_row
Values-sync = search (crosses, values.crosses, sendable) depth 60 fits 20000

pub DataType-send : IsSend DataType.the_row
DataType-send = search (crosses, types.crosses, sendable) depth 60 fits 20000

pub DataType-sync : IsSync DataType.the_row
DataType-sync = search (crosses, types.crosses, sendable) depth 60 fits 20000
