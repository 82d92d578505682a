use Rattle.std.proofs.Common.{◌≡◌, ◌≤◌, ◌+◌, ◌++◌, length, map, take}
use Rattle.std.specs.Prelude.{vec_capacity, vec_len}
use Rattle.tb_delta_front.specs.Deltas.{changes_of}
use Rattle.tb_delta_front.specs.Promise.Deltas.{pair_with}
use Rattle.tb_delta_front.proofs.changes.push_pairs.Given as goal

-- the pairs so far, and room for those that are left
abbrev pub invariant-loop-other : goal.invariant-loop-other
invariant-loop-other l = record {
  pairs : changes_of l.changes.items ≡ changes_of l.initial.changes.items ++ map (pair_with l.step l.comes l.side l.id) (take l.other-index l.others);
  room : vec_len l.changes + length l.others ≤ vec_capacity l.changes + l.other-index;
}
