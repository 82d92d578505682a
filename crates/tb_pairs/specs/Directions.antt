-- When pairs in one order are in another.
use Rattle.std.specs.Prelude.{Bool, true, false}
use Rattle.tb_frame.specs.declared.args.Direction.{Direction}
use Rattle.tb_frame.specs.declared.args.Direction.TheVariants.{Free, ByLeft, ByRight}

-- whether pairs that ascend in the first direction ascend in the second
abbrev pub suffices : Direction → Direction → Bool
suffices found Free = true
suffices Free ByLeft = false
suffices ByLeft ByLeft = true
suffices ByRight ByLeft = false
suffices Free ByRight = false
suffices ByLeft ByRight = false
suffices ByRight ByRight = true
