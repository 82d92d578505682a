use Rattle.std.proofs.Common.{◌≡◌, flat_map}
use Rattle.tb_layout.specs.Promise.Characters.{visible_text}
use Rattle.tb_layout.specs.Room.{with_cut}
use Rattle.tb_layout.proofs.characters.push_shown.Given as goal

abbrev pub invariant-loop-c : goal.invariant-loop-c
invariant-loop-c l = (l.text.items, l.room) ≡ with_cut (l.initial.text.items, l.initial.room) (flat_map visible_text l.yielded)
