use Rattle.std.proofs.Common.{arith}
use Rattle.tb_value.specs.See.{datum}
use Rattle.tb_value.specs.SeeKind.{kind_of}
use Rattle.tb_value.specs.Promise.Typed.{HasType}
use Rattle.tb_chunk.proofs.Alls.{all_next}
use Rattle.tb_chunk.proofs.make.are_of.Goals as goal

pub returns-then-not-is_of : goal.returns-then-not-is_of
returns-then-not-is_of c =
    let n = all_next (HasType (kind_of c.args.dtype.now)) datum c.args.values.now c.loop-value.value-index c.value-item.result (omega arith) c.value-item.is in
    (λ h. absurd (cc), λ a. let h = c.is_of.ensures.1 (n.0 (c.loop-value.invariant.0 a)).0 in let t = c.if-not-is_of.true in cc)

pub loop-value-preserved : goal.loop-value-preserved
loop-value-preserved c =
    let n = all_next (HasType (kind_of c.args.dtype.now)) datum c.args.values.now c.loop-value.value-index c.value-item.result (omega arith) c.value-item.is in
    let t = c.if-not-is_of.false in
    (λ a. (n.0 (c.loop-value.invariant.0 a)).1, λ b. c.loop-value.invariant.1 (n.1 (c.is_of.ensures.0 t, b)))
