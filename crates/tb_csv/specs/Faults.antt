-- Why a text is no table: the first cause that holds.
use Rattle.std.specs.Prelude.{Option, Result}
use Rattle.tb_value.specs.Promise.Refusals.{SettlesBut}
use Rattle.tb_csv.specs.declared.fault.CsvFault.{CsvFault}
use Rattle.tb_csv.specs.declared.fault.CsvFault.TheVariants.{OutOfMemory}

-- A call settles a fault: it passes exactly where there is none, and else refuses by it. Want of memory may come at any time.
abbrev pub Settles : {T : Type 0} → Result T CsvFault → Option CsvFault → Type 0
Settles r fault = SettlesBut OutOfMemory r fault
