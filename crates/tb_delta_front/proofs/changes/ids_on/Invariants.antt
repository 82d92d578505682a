use Rattle.std.proofs.Common.{◌≡◌, ◌≤◌, ◌+◌, length, map, take}
use Rattle.std.specs.Prelude.{vec_capacity, vec_len}
use Rattle.tb_delta_front.specs.Changes.{id_on}
use Rattle.tb_delta_front.proofs.changes.ids_on.Given as goal

abbrev pub invariant-loop-change : goal.invariant-loop-change
invariant-loop-change l = record {
  made : l.ids.items ≡ map (id_on l.side) (take l.change-index l.changes);
  room : vec_len l.ids + length l.changes ≤ vec_capacity l.ids + l.change-index;
}
