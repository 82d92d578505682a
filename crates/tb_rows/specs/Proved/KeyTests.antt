-- The tests of rows as keys are the equality of their values.
use Rattle.std.specs.Bool.{Decides}
use Rattle.std.specs.Cmp.{IsEquivalence}
use Rattle.std.specs.Cmp.Lexicographic.{lists_equiv, pointwise, pointwise_decides}
use Rattle.std.specs.Prelude.{◌≡◌, List}
use Rattle.tb_value.specs.Promise.Datum.{Datum}
use Rattle.tb_value.specs.Proved.ValueTests.{same-Decides, same_equiv}
use Rattle.tb_value.specs.Promise.Same.{same}

pub fields-Decides : (xs ys : List Datum) → Decides (pointwise same xs ys) (xs ≡ ys)
fields-Decides = pointwise_decides same-Decides

pub fields_equiv : IsEquivalence (pointwise same)
fields_equiv = lists_equiv same_equiv
