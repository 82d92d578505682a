use Rattle.std.proofs.Common.{◌≡◌, take, map}
use Rattle.tb_value.specs.SeeKind.{part}
use Rattle.tb_value.proofs.dtype.+copy.Given as goal

abbrev pub invariant-copy_fields-loop-field : goal.invariant-copy_fields-loop-field
invariant-copy_fields-loop-field l = map part l.items.items ≡ map part (take l.field-index l.field-items)
