use Rattle.std.proofs.lemmas.List.{take-append-drop}
use Rattle.tb_layout.specs.Promise.Lines.{fitting_columns}
use Rattle.tb_layout.proofs.laws.shown_or_named.Goals as goal

pub returns : goal.returns
returns c line t = take-append-drop (fitting_columns line t) t
