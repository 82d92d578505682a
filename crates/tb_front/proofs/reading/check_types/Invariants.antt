use Rattle.std.proofs.Common.{◌≡◌, drop}
use Rattle.tb_front.specs.Promise.Faults.{unknown_type}
use Rattle.tb_front.proofs.reading.check_types.Given as goal

-- the types that are left decide
abbrev pub invariant-loop-given : goal.invariant-loop-given
invariant-loop-given l = unknown_type l.types l.names l.others ≡ unknown_type (drop l.given-index l.types) l.names l.others
