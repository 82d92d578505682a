use Rattle.std.proofs.Common.{◌≡◌, ◌<◌, ℕ, [], length, get_or}
use Rattle.tb_frame.proofs.chunking.are_cut_alike.Given as goal

-- the chunks so far have the same lengths
abbrev pub invariant-loop-chunk : goal.invariant-loop-chunk
invariant-loop-chunk l = (k : ℕ) → k < l.chunk → length (get_or l.first.chunks k []) ≡ length (get_or l.second.chunks k [])
