use Rattle.std.proofs.Common.{◌≡◌, ◌+◌, ◌-◌, ◌≤◌, drop, length}
use Rattle.std.specs.List.{position_or_len}
use Rattle.tb_csv.specs.Plain.{is_field_end}
use Rattle.tb_csv.proofs.plain.near_field_end.Given as goal

abbrev pub invariant-loop-end : goal.invariant-loop-end
invariant-loop-end l = record {
  within : l.end ≤ length l.text;
  before : l.place + position_or_len (is_field_end l.separator) (drop l.place l.text) ≡ l.end + position_or_len (is_field_end l.separator) (drop l.end l.text);
}

abbrev pub decreases-loop-end : goal.decreases-loop-end
decreases-loop-end l = length l.text - l.end
