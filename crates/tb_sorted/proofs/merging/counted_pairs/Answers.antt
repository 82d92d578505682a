use Rattle.std.proofs.Common.{List, ℕ, ℤ, refl}
use Rattle.tb_merge.specs.Keys.{AreMergeable}
use Rattle.tb_sorted.specs.Keys.{AreListsToMerge}
use Rattle.tb_sorted.proofs.merging.counted_pairs.Goals as goal

mergeable : (left right : List ℤ) (ledger : ℕ) → AreListsToMerge left right → AreMergeable left right ledger ledger
mergeable left right ledger keys =
    record { counted = refl; left_sorted = keys.left_sorted; right_sorted = keys.right_sorted; left_small = keys.left_few; right_small = keys.right_few }

pub merge_left-requires-clause-keys : goal.merge_left-requires-clause-keys
merge_left-requires-clause-keys g c κs within = mergeable _ _ _ c.requires.keys

pub merge_inner-requires-clause-keys : goal.merge_inner-requires-clause-keys
merge_inner-requires-clause-keys g c κs within = mergeable _ _ _ c.requires.keys
