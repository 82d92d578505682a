use Rattle.tb_rows.specs.Coded.{AreAsLed}
use Rattle.tb_rows.specs.Names.{name_of}
use Rattle.tb_rows.proofs.by_code.are_as_led.Given as goal

abbrev pub invariant-loop-place : goal.invariant-loop-place
invariant-loop-place g l = AreAsLed (g.V.RowValues.columns l.rows) (name_of l.names) l.leaders l.place
