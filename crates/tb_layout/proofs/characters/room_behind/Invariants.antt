use Rattle.std.proofs.Common.{◌≡◌, Some, flat_map}
use Rattle.tb_layout.specs.Promise.Characters.{visible_text, width_of}
use Rattle.tb_layout.specs.Room.{room_left}
use Rattle.tb_layout.proofs.characters.room_behind.Given as goal

abbrev pub invariant-loop-c : goal.invariant-loop-c
invariant-loop-c l = l.left ≡ room_left (Some l.fn.room) (width_of (flat_map visible_text l.yielded))
