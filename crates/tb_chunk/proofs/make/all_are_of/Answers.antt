use Rattle.std.proofs.Common.{arith, refl}
use Rattle.tb_value.specs.See.{data_of}
use Rattle.tb_value.specs.SeeKind.{kind_of}
use Rattle.tb_value.specs.Promise.Typed.{HasType}
use Rattle.tb_chunk.proofs.Alls.{all_next_list, all_none}
use Rattle.tb_chunk.proofs.make.all_are_of.Goals as goal

pub returns-then-not-are_of : goal.returns-then-not-are_of
returns-then-not-are_of c =
    let n = all_next_list (HasType (kind_of c.args.dtype.now)) (λ v. data_of v.items) c.args.chunks.now c.loop-chunk.chunk-index c.chunk-item.result (omega arith) c.chunk-item.is in
    (λ h. absurd (cc), λ a. let h = c.are_of.ensures.1 (rw c.deref.ensures.value (n.0 (c.loop-chunk.invariant.0 a)).0) in let t = c.if-not-are_of.true in cc)

pub loop-chunk-preserved : goal.loop-chunk-preserved
loop-chunk-preserved c =
    let n = all_next_list (HasType (kind_of c.args.dtype.now)) (λ v. data_of v.items) c.args.chunks.now c.loop-chunk.chunk-index c.chunk-item.result (omega arith) c.chunk-item.is in
    let t = c.if-not-are_of.false in
    (λ a. (n.0 (c.loop-chunk.invariant.0 a)).1, λ b. c.loop-chunk.invariant.1 (n.1 (rw c.deref.ensures.value at (c.are_of.ensures.0 t), b)))

pub returns : goal.returns
returns c = (λ _. c.loop-chunk.invariant.1 (all_none (HasType (kind_of c.args.dtype.now)) (λ v. data_of v.items) c.args.chunks.now c.loop-chunk.chunk-index (omega arith)), λ _. refl)
