use Rattle.std.proofs.Common.{◌≡◌}
use Rattle.std.specs.List.{flat_map}
use Rattle.tb_csv.proofs.in_pieces.in_one_list.Given as goal

abbrev pub invariant-loop-part : goal.invariant-loop-part
invariant-loop-part l = l.runs.items ≡ flat_map (λ p. p.items) l.yielded
