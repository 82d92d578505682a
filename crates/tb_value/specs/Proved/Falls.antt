-- Each list of values that stands in another is the lighter one.
use Rattle.std.specs.Prelude.{◌≤◌, max, List, [], ◌∷◌}
use Rattle.std.proofs.Common.{arith}
use denote.Param.Weighed.{most}
use Rattle.tb_value.specs.Promise.Datum.{weight, weights, items_of}
use Rattle.tb_value.specs.See.{datum, data_of}
use Rattle.tb_value.specs.declared.any_value.AnyValue.{AnyValue}
use Rattle.tb_value.specs.declared.any_value.AnyValue.TheVariants as any
use Rattle.tb_value.specs.declared.any_value.Values.TheDeep.{deep-AnyValue}

pub deep_le-weight : (x : AnyValue) → deep-AnyValue x ≤ weight (datum x)
deep_le-weight any.Null = omega arith
deep_le-weight (any.Boolean b) = omega arith
deep_le-weight (any.Int i) = omega arith
deep_le-weight (any.String s) = omega arith
deep_le-weight (any.Binary s) = omega arith
deep_le-weight (any.List vs) = omega arith
deep_le-weight (any.Struct vs) = omega arith

pub most_le-weights : (xs : List AnyValue)
    → max (most deep-AnyValue xs) 0 ≤ weights (items_of (data_of xs))
most_le-weights [] = omega arith
most_le-weights (x ∷ xs) = omega (arith, deep_le-weight x, most_le-weights xs)
