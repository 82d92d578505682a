use Rattle.std.proofs.Common.{◌≡◌, take}
use Rattle.tb_value.specs.Promise.Names.{Name}
use Rattle.tb_frame.specs.NameSets.{has_name}
use Rattle.tb_frame.specs.Promise.Naming.{is_among}
use Rattle.tb_group_front.specs.Promise.Grouped.{compared_names}
use Rattle.tb_group_front.proofs.comparing.compared_names.Given as goal

abbrev pub invariant-loop-asked : goal.invariant-loop-asked
invariant-loop-asked l = (n : Name) → has_name l.names n ≡ is_among (compared_names (take l.asked-index l.aggs)) n
