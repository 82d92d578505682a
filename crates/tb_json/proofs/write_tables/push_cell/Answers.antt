use Rattle.std.proofs.Common.{ap, ◌∙◌}
use Rattle.serde_json.specs.Written.{has_float}
use Rattle.tb_value.specs.See.{lent_value}
use Rattle.tb_value.specs.SeeKind.{kind_of}
use Rattle.tb_json.proofs.PlainTables.{plain_value}
use Rattle.tb_json.proofs.write_tables.push_cell.Goals as goal

pub push_value-requires : goal.push_value-requires
push_value-requires c = ap has_float c.in_ok-cell_value-in_default.ensures ∙ plain_value (kind_of c.args.dtype.now) (lent_value c.args.value)
