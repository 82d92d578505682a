use Rattle.std.proofs.Common.{◌≡◌, ◌-◌, arith, drop, map, refl, subst, take}
use Rattle.std.specs.List.{FoldsTo}
use Rattle.tb_value.specs.See.{lent_value}
use Rattle.tb_chunk.specs.Promise.Col.{concatenation}
use Rattle.tb_pieces.proofs.PieceWalks.{read_before}
use Rattle.tb_pieces.proofs.piece_column.read_each.Goals as goal

pub loop-row-init : goal.loop-row-init
loop-row-init g c = record { from = omega arith; to = c.requires.order; rest = λ last h. h }

pub loop-row-preserved : goal.loop-row-preserved
loop-row-preserved g c =
    let so_far = c.loop-row.invariant in
    let vs = concatenation (map g.C.Chunk.shown c.args.chunks.now) in
    record {
      from = omega (arith, so_far.from);
      to = omega (arith, c.loop-row-test.true);
      rest = λ last h. so_far.rest last (read_before (λ before v after. g.R.ReadValue.gives c.args.reader.now v before tt after) vs c.loop-row.row c.args.end (lent_value c.value_in.result) _ _ last c.loop-row-test.true c.requires.within c.value_in.ensures.value c.read.ensures h);
    }

pub returns : goal.returns
returns g c =
    let so_far = c.loop-row.invariant in
    let vs = concatenation (map g.C.Chunk.shown c.args.chunks.now) in
    let none : 0 ≡ c.args.end - c.loop-row.row = omega (arith, so_far.to, c.loop-row-test.false) in
    so_far.rest _ (subst (λ n. FoldsTo (λ before v after. g.R.ReadValue.gives c.args.reader.now v before tt after) c.loop-row.state (take n (drop c.loop-row.row vs)) c.loop-row.state) none refl)
