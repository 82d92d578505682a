use Rattle.std.proofs.Common.{◌≡◌, ℕ, ◌<◌, length, get_or, take}
use Rattle.std.specs.List.{sum}
use Rattle.tb_frame.specs.Frame.{lens}
use Rattle.tb_gather.proofs.ids.starts_of.Given as goal

abbrev pub invariant-loop-chunk : goal.invariant-loop-chunk
invariant-loop-chunk l = record {
  whole : length l.starts.items ≡ l.chunk;
  each : (k : ℕ) → k < l.chunk → get_or l.starts.items k 0 ≡ sum (take k (lens l.column));
  start : l.start ≡ sum (take l.chunk (lens l.column));
}
