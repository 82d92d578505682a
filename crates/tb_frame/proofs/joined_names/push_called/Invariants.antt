use Rattle.std.proofs.Common.{◌≡◌, ◌++◌, List, Some, take, map, Bor}
use Rattle.tb_value.specs.Promise.Names.{Name}
use Rattle.tb_frame.specs.Promise.Naming.{is_among, right_name}
use Rattle.tb_frame.specs.NameSets.{has_name}
use Rattle.tb_frame.proofs.joined_names.push_called.Given as goal

abbrev pub invariant-loop-name : goal.invariant-loop-name
invariant-loop-name l = (ns : List Name) → ((n : Name) → has_name l.fn.taken n ≡ is_among ns n)
    → l.names.items ≡ l.fn.names.items ++ map (right_name ns (Some l.suffix)) (map (λ (n : Bor Name). n.now) (take l.name-index l.right))
