use Rattle.std.proofs.Common.{◌≡◌, not, take, map, Bor}
use Rattle.std.specs.Prelude.{filter}
use Rattle.tb_value.specs.Promise.Names.{Name}
use Rattle.tb_frame.specs.Promise.Naming.{is_among}
use Rattle.tb_frame.proofs.joined_names.kept_names.Given as goal

abbrev pub invariant-loop-name : goal.invariant-loop-name
invariant-loop-name l = map (λ (n : Bor Name). n.now) l.kept.items ≡ map (λ (n : Bor Name). n.now) (filter (λ (n : Bor Name). not (is_among l.fn.gone n.now)) (take l.name-index l.names))
