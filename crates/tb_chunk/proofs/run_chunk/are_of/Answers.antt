use Rattle.std.proofs.Common.{arith, ℕ, refl}
use Rattle.tb_value.specs.See.{datum}
use Rattle.tb_value.specs.SeeKind.{kind_of}
use Rattle.tb_value.specs.Promise.Typed.{HasType}
use Rattle.tb_value.specs.declared.any_value.AnyValue.{AnyValue}
use Rattle.tb_chunk.proofs.Alls.{all_after, all_next}
use Rattle.tb_chunk.proofs.run_chunk.are_of.Goals as goal

pub returns-then-not-is_of : goal.returns-then-not-is_of
returns-then-not-is_of c =
    let n = all_next (HasType (kind_of c.args.dtype.now)) (λ (r : AnyValue × ℕ). datum r.0) c.args.runs.now c.loop-value.value-index c.loop-value-item.result (omega arith) c.loop-value-item.is in
    (λ h. absurd (cc), λ a. let h = c.is_of.ensures.1 (n.0 (c.loop-value.invariant.0 a)).0 in let t = c.if-not-is_of.true in cc)

pub loop-value-preserved : goal.loop-value-preserved
loop-value-preserved c =
    let n = all_next (HasType (kind_of c.args.dtype.now)) (λ (r : AnyValue × ℕ). datum r.0) c.args.runs.now c.loop-value.value-index c.loop-value-item.result (omega arith) c.loop-value-item.is in
    let t = c.if-not-is_of.false in
    (λ a. (n.0 (c.loop-value.invariant.0 a)).1, λ b. c.loop-value.invariant.1 (n.1 (c.is_of.ensures.0 t, b)))

pub returns : goal.returns
returns c = (λ _. c.loop-value.invariant.1 (all_after (HasType (kind_of c.args.dtype.now)) (λ (r : AnyValue × ℕ). datum r.0) c.args.runs.now c.loop-value.value-index (omega arith)), λ _. refl)
