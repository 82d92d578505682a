use Rattle.std.proofs.Common.{◌≡◌, ◌≤◌, take}
use Rattle.std.specs.List.{sum_by}
use Rattle.tb_hash.specs.Portions.{portion_size}
use Rattle.tb_hash.proofs.portion.count_pairs.Given as goal

-- the pairs of the portions so far are counted, and are not too many
abbrev pub invariant-loop-portion : goal.invariant-loop-portion
invariant-loop-portion l = record {
  counted : l.count ≡ sum_by portion_size (take l.portion-index l.portions);
  few : l.count ≤ 4294967294;
}
