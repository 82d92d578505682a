use Rattle.std.proofs.Common.{◌≡◌, ◌<◌, ◌^◌, ◌+◌, ◌++◌, drop}
use Rattle.std.specs.Fmt.{decimal}
use Rattle.tb_csv.proofs.digits.counting_number.Given as goal

abbrev pub invariant-loop-byte : goal.invariant-loop-byte
invariant-loop-byte l = record {
  written : decimal l.number ++ drop l.byte-index l.others ≡ l.bytes;
  some : 0 < l.number;
  small : l.number < 10 ^ (l.byte-index + 1);
}
