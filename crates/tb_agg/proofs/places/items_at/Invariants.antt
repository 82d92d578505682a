use Rattle.std.proofs.Common.{◌≡◌, take}
use Rattle.tb_agg.specs.Kept.{items_at}
use Rattle.tb_agg.proofs.places.items_at.Given as goal

abbrev pub invariant-loop-place : goal.invariant-loop-place
invariant-loop-place g l = (other : _) → l.taken.items ≡ items_at other l.items (take l.place-index l.places)
