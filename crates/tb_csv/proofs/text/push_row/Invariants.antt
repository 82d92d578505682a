use Rattle.std.proofs.Common.{◌≡◌, ◌++◌, length, map, take}
use Rattle.tb_csv.specs.Promise.Texts.{line_text}
use Rattle.tb_csv.proofs.TextWalks.{field_in}
use Rattle.tb_csv.proofs.text.push_row.Given as goal

abbrev pub invariant-loop-place : goal.invariant-loop-place
invariant-loop-place l = l.text.items ≡ l.fn.text.items ++ line_text l.separator (map (field_in (length l.columns) l.index) (take l.place l.columns))
