use Rattle.std.proofs.Common.{◌≡◌, take}
use Rattle.std.specs.Str.Parse.{digits_value, AllDigits}
use Rattle.tb_tree.proofs.number.plain_number.Given as goal

-- the digits so far, and their number
abbrev pub invariant-loop-byte : goal.invariant-loop-byte
invariant-loop-byte l = record {
  all : AllDigits 10 (take l.byte-index l.text);
  number : digits_value 10 (take l.byte-index l.text) ≡ l.number;
}
