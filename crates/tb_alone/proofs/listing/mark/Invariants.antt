use Rattle.std.proofs.Common.{◌≡◌, ◌<◌, ◌||◌, ℕ, false, nat_eq, length, get_or, take}
use Rattle.std.specs.List.{list_any}
use Rattle.tb_alone.proofs.listing.mark.Given as goal

-- the rows so far are marked
abbrev pub invariant-loop-row : goal.invariant-loop-row
invariant-loop-row l = record {
  len : length l.met ≡ length l.initial.met;
  marks : (k : ℕ) → k < length l.initial.met → get_or l.met k false ≡ (get_or l.initial.met k false || list_any (nat_eq k) (take l.row-index l.rows));
}
