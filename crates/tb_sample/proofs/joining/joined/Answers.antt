use Rattle.std.proofs.Common.{◌∷◌, [], arith, ap}
use Rattle.tb_value.specs.Promise.Names.{Name}
use Rattle.tb_sample.proofs.Answered.{answered, is_request, unrefused}
use Rattle.tb_sample.proofs.joining.joined.Goals as goal

pub only_memory-requires : goal.only_memory-requires
only_memory-requires g c =
    let is = is_request c.args.rows c.in_ok-left.left c.in_ok-right.right (c.in_ok-from_str.field-0 ∷ []) c.in_ok-left.ensures c.in_ok-right.ensures (ap (λ (n : Name). n ∷ []) c.in_ok-from_str.ensures) in
    unrefused c.args.rows _ c.inner_join.result is (omega (arith, c.requires.few)) c.inner_join.ensures.settles

pub returns : goal.returns
returns g c =
    let is = is_request c.args.rows c.in_ok-left.left c.in_ok-right.right (c.in_ok-from_str.field-0 ∷ []) c.in_ok-left.ensures c.in_ok-right.ensures (ap (λ (n : Name). n ∷ []) c.in_ok-from_str.ensures) in
    answered c.args.rows _ c.inner_join.result c.only_memory.result is c.inner_join.ensures.answer c.only_memory.ensures.value
