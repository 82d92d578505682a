-- What the program has of a change.
use Rattle.std.specs.Prelude.{List, map}
use Rattle.tb_delta_front.specs.declared.change.Change as rust
use Rattle.tb_delta_front.specs.Promise.Deltas.{Change}

abbrev pub change_view : rust.Change → Change
change_view c = record { step = c.step; comes = c.comes; left = c.left; right = c.right }

abbrev pub changes_of : List rust.Change → List Change
changes_of cs = map change_view cs
