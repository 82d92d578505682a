use Rattle.std.proofs.Common.{◌≡◌, ◌++◌, length, map}
use Rattle.tb_view.proofs.filling.shared.Given as goal

-- those that are shared, and those that are left
abbrev pub invariant-loop-buffer : goal.invariant-loop-buffer
invariant-loop-buffer l = record {
  all : l.all.items ++ map (λ b. b.items) l.buffer-iterator.rest.items ≡ map (λ b. b.items) l.initial.buffer-iterator.rest.items;
  rest_len : l.buffer-iterator.rest.len ≡ length l.buffer-iterator.rest.items;
}
