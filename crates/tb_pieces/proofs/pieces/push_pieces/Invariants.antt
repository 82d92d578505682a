use Rattle.std.proofs.Common.{◌≡◌, ◌++◌, length}
use Rattle.std.specs.List.{flat_map}
use Rattle.tb_pieces.proofs.pieces.push_pieces.Given as goal

abbrev pub invariant-loop-piece : goal.invariant-loop-piece
invariant-loop-piece l = record {
  text : l.text ++ flat_map (λ p. p.items) l.piece-iterator.rest.items ≡ l.initial.text ++ flat_map (λ p. p.items) l.initial.piece-iterator.rest.items;
  rest_len : l.piece-iterator.rest.len ≡ length l.piece-iterator.rest.items;
}
