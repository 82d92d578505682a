use Rattle.std.proofs.Common.{◌≡◌, take, None}
use Rattle.std.specs.List.{find}
use Rattle.tb_value.specs.Promise.Names.{Name}
use Rattle.tb_value.specs.Promise.Pairs.{row_numbers}
use Rattle.tb_frame.specs.Promise.Naming.{is_among}
use Rattle.tb_frame.specs.NameSets.{has_name}
use Rattle.tb_frame.specs.Promise.Refusal.{repeats}
use Rattle.tb_why.proofs.names.first_repeat.Given as goal

-- no name so far is repeated, and the set has the names so far
abbrev pub invariant-loop-i : goal.invariant-loop-i
invariant-loop-i l = record {
  fresh : find (repeats l.names) (row_numbers l.i) ≡ None;
  seen : (n : Name) → has_name l.seen n ≡ is_among (take l.i l.names) n;
}
