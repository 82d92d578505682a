use Rattle.std.proofs.Common.{◌≡◌, take, map}
use Rattle.tb_value.specs.Promise.Names.{Name}
use Rattle.tb_frame.specs.Promise.Naming.{is_among}
use Rattle.tb_frame.specs.NameSets.{has_name}
use Rattle.tb_frame.proofs.joined_names.lent_name_set.Given as goal

-- the set has the names so far
abbrev pub invariant-loop-name : goal.invariant-loop-name
invariant-loop-name l = (n : Name) → has_name l.set n ≡ is_among (take l.name-index (map (λ n. n.now) l.names)) n
