use Rattle.std.proofs.Common.{arith, refl}
use Rattle.tb_value.specs.SeeKind.{kind_of}
use Rattle.tb_value.specs.Promise.Typed.{HasType}
use Rattle.tb_value.specs.See.{lent_value}
use Rattle.tb_chunk.proofs.Alls.{all_next_at, all_end}
use Rattle.tb_chunk.proofs.arrange.is_chunk_of.Goals as goal

pub returns-then-not-is_of_ref : goal.returns-then-not-is_of_ref
returns-then-not-is_of_ref g c =
    let n = all_next_at (HasType (kind_of c.args.dtype.now)) (g.C.Chunk.shown c.args.chunk.now) c.loop-row.row (lent_value c.value.result) (omega (arith, c.len-row-end.ensures)) c.value.ensures.value in
    (λ h. absurd (cc), λ a. let h = c.is_of_ref.ensures.1 (n.0 (c.loop-row.invariant.0 a)).0 in let t = c.if-not-is_of_ref.true in cc)

pub loop-row-preserved : goal.loop-row-preserved
loop-row-preserved g c =
    let n = all_next_at (HasType (kind_of c.args.dtype.now)) (g.C.Chunk.shown c.args.chunk.now) c.loop-row.row (lent_value c.value.result) (omega (arith, c.len-row-end.ensures)) c.value.ensures.value in
    let t = c.if-not-is_of_ref.false in
    (λ a. (n.0 (c.loop-row.invariant.0 a)).1, λ b. c.loop-row.invariant.1 (n.1 (c.is_of_ref.ensures.0 t, b)))

pub returns : goal.returns
returns g c = (λ _. c.loop-row.invariant.1 (all_end (HasType (kind_of c.args.dtype.now)) (g.C.Chunk.shown c.args.chunk.now) c.loop-row.row (omega (arith, c.len-row-end.ensures))), λ _. refl)
