-- What a set of names holds.
use Rattle.std.specs.Prelude.{Bool}
use Rattle.std.specs.BTreeSet.{contains_by}
use Rattle.std.specs.Cmp.Lexicographic.{slice_cmp}
use Rattle.std.specs.Ordering.{nat_cmp}
use Rattle.tb_value.specs.Promise.Names.{Name}
use Rattle.tb_frame.specs.declared.names.NameSet.{NameSet}

-- whether the name is in the set
abbrev pub has_name : NameSet → Name → Bool
has_name s n = contains_by (λ k. slice_cmp nat_cmp n k.now) s.names
