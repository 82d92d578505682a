use Rattle.std.proofs.Common.{arith, ◌≡◌, ◌∙◌, ◌-◌, ◌+◌, ap, sym, length, map, take, drop, min, length-append}
use Rattle.std.specs.Prelude.{option_map, is_some}
use Rattle.tb_value.specs.See.{lent_value}
use Rattle.tb_cell.specs.Promise.Order.{last_in_order}
use Rattle.tb_chunk.specs.Promise.Col.{concatenation}
use Rattle.tb_cell.proofs.Follow.{followed_part, followed_on}
use Rattle.tb_chunk.proofs.Lists.{flat_drop}
use Rattle.tb_chunk.proofs.ordering.follow.Goals as goal

pub returns-in-None : goal.returns-in-None
returns-in-None g c =
    let l = c.loop-chunk in
    let xs = g.C.Chunk.shown c.chunk-item.result in
    let ys = concatenation (map g.C.Chunk.shown (drop (l.chunk-index + 1) c.args.chunks.now)) in
    let cut = flat_drop g.C.Chunk.shown c.args.chunks.now l.chunk-index c.chunk-item.result (omega arith) c.chunk-item.is in
    let m1 : c.min-from.result ≡ min l.skip (length xs) = c.min-from.ensures ∙ ap (λ k. min l.skip k) c.len-rows.ensures in
    let m2 : c.min-count.result ≡ min l.left (length xs - c.min-from.result) = c.min-count.ensures ∙ ap (λ k. min l.left (k - c.min-from.result)) c.len-rows.ensures in
    let part = followed_part c.args.descending (lent_value l.last) xs ys l.skip l.left c.min-from.result c.min-count.result m1 m2 in
    let rest = take (l.left - c.min-count.result) (drop (l.skip - c.min-from.result) ys) in
    let all = l.invariant.same ∙ (ap (λ zs. last_in_order c.args.descending (lent_value l.last) (take l.left (drop l.skip zs))) cut ∙ (part ∙ ap (λ o. followed_on c.args.descending o rest) (sym c.follow_chunk.ensures ∙ ap (option_map lent_value) c.in-None.is))) in
    sym (ap is_some all)

pub loop-chunk-preserved : goal.loop-chunk-preserved
loop-chunk-preserved g c =
    let l = c.loop-chunk in
    let xs = g.C.Chunk.shown c.chunk-item.result in
    let ys = concatenation (map g.C.Chunk.shown (drop (l.chunk-index + 1) c.args.chunks.now)) in
    let cut = flat_drop g.C.Chunk.shown c.args.chunks.now l.chunk-index c.chunk-item.result (omega arith) c.chunk-item.is in
    let m1 : c.min-from.result ≡ min l.skip (length xs) = c.min-from.ensures ∙ ap (λ k. min l.skip k) c.len-rows.ensures in
    let m2 : c.min-count.result ≡ min l.left (length xs - c.min-from.result) = c.min-count.ensures ∙ ap (λ k. min l.left (k - c.min-from.result)) c.len-rows.ensures in
    let part = followed_part c.args.descending (lent_value l.last) xs ys l.skip l.left c.min-from.result c.min-count.result m1 m2 in
    let rest = take (l.left - c.min-count.result) (drop (l.skip - c.min-from.result) ys) in
    let len : length (concatenation (map g.C.Chunk.shown (drop l.chunk-index c.args.chunks.now))) ≡ length xs + length ys = ap length cut ∙ length-append xs ys in
    record {
      same = l.invariant.same ∙ (ap (λ zs. last_in_order c.args.descending (lent_value l.last) (take l.left (drop l.skip zs))) cut ∙ (part ∙ ap (λ o. followed_on c.args.descending o rest) (sym c.follow_chunk.ensures ∙ ap (option_map lent_value) c.in-Some.is)));
      within = omega (arith, len, m1, m2, l.invariant.within);
    }
