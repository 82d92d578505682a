use Rattle.std.proofs.Common.{ap, ◌∙◌}
use Rattle.serde_json.specs.Written.{has_float}
use Rattle.tb_value.specs.SeeKind.{kind_of}
use Rattle.tb_json.proofs.PlainTables.{plain_kind}
use Rattle.tb_json.proofs.write_tables.push_heading.Goals as goal

pub push_value-requires : goal.push_value-requires
push_value-requires c = ap has_float c.in_ok-dtype.ensures ∙ plain_kind (kind_of c.dtype.result.now)
