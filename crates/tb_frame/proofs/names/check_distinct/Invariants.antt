use Rattle.std.proofs.Common.{◌≡◌, take, map, None}
use Rattle.std.specs.List.{find}
use Rattle.tb_value.specs.Promise.Names.{Name}
use Rattle.tb_value.specs.Promise.Pairs.{row_numbers}
use Rattle.tb_frame.specs.Promise.Naming.{is_among}
use Rattle.tb_frame.specs.NameSets.{has_name}
use Rattle.tb_frame.specs.Promise.Refusal.{repeats}
use Rattle.tb_frame.proofs.names.check_distinct.Given as goal

-- no name so far is repeated, and the set has the names so far
abbrev pub invariant-loop-name : goal.invariant-loop-name
invariant-loop-name l = record {
  fresh : find (repeats (map (λ n. n.now) l.names)) (row_numbers l.name-index) ≡ None;
  seen : (n : Name) → has_name l.seen n ≡ is_among (take l.name-index (map (λ n. n.now) l.names)) n;
}
