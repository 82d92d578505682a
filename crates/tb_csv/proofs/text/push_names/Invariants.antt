use Rattle.std.proofs.Common.{◌≡◌, ◌++◌, map, take}
use Rattle.tb_csv.specs.Promise.Texts.{line_text}
use Rattle.tb_csv.proofs.TextWalks.{name_in}
use Rattle.tb_csv.proofs.text.push_names.Given as goal

abbrev pub invariant-loop-place : goal.invariant-loop-place
invariant-loop-place l = l.text.items ≡ l.fn.text.items ++ line_text l.separator (map name_in (take l.place l.columns))
