use Rattle.std.proofs.Common.{◌≡◌, ◌++◌, ℕ, take}
use Rattle.csv.specs.Writing.{escaped}
use Rattle.tb_csv.specs.Promise.Texts.{style}
use Rattle.tb_csv.proofs.field_text.push_escaped.Given as goal

abbrev pub invariant-loop-byte : goal.invariant-loop-byte
invariant-loop-byte l = (separator : ℕ) → l.text.items ≡ l.fn.text.items ++ escaped (style separator) (take l.byte-index l.field)
