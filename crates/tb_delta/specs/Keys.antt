-- Whether two keys are of one group.
use Rattle.std.specs.Prelude.{Bool}
use Rattle.std.specs.Ordering.{is_eq}
use Rattle.tb_value.specs.Promise.Datum.{Datum}
use Rattle.tb_rows.specs.Order.{value_cmp}

abbrev pub ties : Datum → Datum → Bool
ties a b = is_eq (value_cmp a b)
