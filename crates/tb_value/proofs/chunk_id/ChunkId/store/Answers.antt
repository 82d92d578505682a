use Rattle.std.proofs.Common.{arith, ◌∙◌, ◌*◌, ◌^◌, ◌%◌, bit_or, Some}
use Rattle.tb_value.proofs.Packs.{packed-chunk, packed-row, packed-some, not_ones}
use Rattle.tb_value.proofs.chunk_id.ChunkId.store.Goals as goal

pub invariant_of-result : goal.invariant_of-result
invariant_of-result g c =
    let e = packed-row g.row.B c.args.chunk c.args.row c.requires.bits.1 c.requires.chunk c.requires.row in
    λ _. (c.requires.bits.0, c.requires.bits.1, omega (arith, e, c.requires.row))

pub returns : goal.returns
returns g c =
    let some = packed-some g.row.B c.args.chunk c.args.row c.requires.bits.1 c.requires.chunk c.requires.row in
    let chunk = packed-chunk g.row.B c.args.chunk c.args.row c.requires.bits.1 c.requires.chunk c.requires.row in
    let row = packed-row g.row.B c.args.chunk c.args.row c.requires.bits.1 c.requires.chunk c.requires.row in
    not_ones g.row.B (bit_or (c.args.row * 2 ^ g.row.B % 18446744073709551616) c.args.chunk) some ∙ (λ i. Some (chunk i, row i))
