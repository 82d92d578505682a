use Rattle.std.proofs.Common.{arith, ◌∙◌, ◌-◌, ◌^◌, ◌/◌, ap, sym, bit_and, Some}
use Rattle.std.proofs.lemmas.Nat.{one_shl, and_mask, pow_pos}
use Rattle.std.proofs.Math.Nat.{mod-lt}
use Rattle.std.proofs.Math.Pow.{pow_mono}
use Rattle.tb_value.proofs.Packs.{some_swizzled}
use Rattle.tb_value.proofs.chunk_id.ChunkId.extract.Goals as goal

pub overflow_cast-chunk : goal.overflow_cast-chunk
overflow_cast-chunk g c =
    let n = c.self.inside.swizzled in
    let held = c.self.invariant (some_swizzled g.row.B n c.args.self.now c.self.view_is c.requires).0 in
    let low = ap (λ m. bit_and n (m - 1)) (one_shl g.row.B 64 (omega (arith, held.1))) ∙ and_mask n g.row.B in
    omega (arith, low, pow_mono held.1, mod-lt n (pow_pos g.row.B))

pub returns : goal.returns
returns g c =
    let n = c.self.inside.swizzled in
    let some = some_swizzled g.row.B n c.args.self.now c.self.view_is c.requires in
    let held = c.self.invariant some.0 in
    let low = ap (λ m. bit_and n (m - 1)) (one_shl g.row.B 64 (omega (arith, held.1))) ∙ and_mask n g.row.B in
    some.1 ∙ ap (λ chunk. Some (chunk, n / 2 ^ g.row.B)) (sym low)
