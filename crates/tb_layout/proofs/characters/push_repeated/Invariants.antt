use Rattle.std.proofs.Common.{◌≡◌, replicate}
use Rattle.tb_layout.specs.Room.{with_cut}
use Rattle.tb_layout.proofs.characters.push_repeated.Given as goal

abbrev pub invariant-loop : goal.invariant-loop
invariant-loop l = (l.text.items, l.room) ≡ with_cut (l.initial.text.items, l.initial.room) (replicate l.counter l.c)
