use Rattle.std.proofs.Common.{◌≡◌, ◌≤◌, ◌+◌, ◌++◌, ◌∙◌, length, take, drop, ap, arith, sym}
use Rattle.tb_text.specs.Pieces.{bytes_of}
use Rattle.tb_text.proofs.Fills.{ends_within, next_start, one_more, room_kept}
use Rattle.tb_text.proofs.rooms.fill.Goals as goal

pub put-requires : goal.put-requires
put-requires c =
    let so_far = c.loop-piece.invariant in
    let p = c.piece-item.result in
    let len : length c.deref.result.now ≡ length p.items = ap length c.deref.ensures.value in
    let ends = ends_within c.args.pieces.now c.loop-piece.piece-index p (omega arith) c.piece-item.is c.loop-piece.start so_far.start in
    let low : c.loop-piece.start ≤ length c.args.room.now = omega (arith, ends, c.requires) in
    let kept = room_kept (bytes_of (take c.loop-piece.piece-index c.args.pieces.now)) c.args.room.now c.loop-piece.room c.loop-piece.start so_far.start low so_far.room in
    omega (arith, len, ends, kept, c.requires)

pub loop-piece-preserved : goal.loop-piece-preserved
loop-piece-preserved c =
    let so_far = c.loop-piece.invariant in
    let p = c.piece-item.result in
    let s = c.loop-piece.start in
    let len : c.len-start.result ≡ length p.items = c.len-start.ensures ∙ sym c.deref.ensures.len ∙ ap length c.deref.ensures.value in
    record {
      start = ap (λ n. s + n) len ∙ next_start c.args.pieces.now c.loop-piece.piece-index p (omega arith) c.piece-item.is s so_far.start;
      room = one_more c.args.pieces.now c.loop-piece.piece-index p (omega arith) c.piece-item.is s c.args.room.now c.loop-piece.room c.put.new.room so_far.start so_far.room
          (c.put.ensures ∙ ap (λ l. take s c.loop-piece.room ++ (l ++ drop (s + length l) c.loop-piece.room)) c.deref.ensures.value)
          ∙ ap (λ n. bytes_of (take (c.loop-piece.piece-index + 1) c.args.pieces.now) ++ drop (s + n) c.args.room.now) (sym len);
    }
