-- The texts of tables, as the program has them.
use Rattle.std.specs.Prelude.{ℕ, List, Result}
use Rattle.tb_frame.specs.Promise.Table.{Table}
use Rattle.tb_front.specs.declared.fault.FrontFault.{FrontFault}
use Rattle.tb_front.specs.declared.options.TextForm.TheVariants.{Csv}
use Rattle.tb_front.specs.Promise.Texts.{written}

-- the text of a table of some number, whatever the number
abbrev pub written_text : ℕ → ℕ → Table → Result (List ℕ) FrontFault
written_text separator k t = written Csv separator t
