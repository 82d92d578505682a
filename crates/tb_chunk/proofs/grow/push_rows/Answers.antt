use Rattle.std.proofs.Common.{arith, ◌≡◌, ◌∙◌, ◌+◌, ◌-◌, ◌++◌, ℕ, List, [], ap, append_assoc, drop, get_or, length, length-append, length-drop, length-take-le, map, sym, take}
use Rattle.std.proofs.lemmas.List.{map-append}
use Rattle.tb_view.specs.Moved.{moved_view}
use Rattle.tb_chunk.proofs.PlainRows.{two_parts}
use Rattle.tb_chunk.proofs.grow.push_rows.Goals as goal

pub push_each-requires-clause-room : goal.push_each-requires-clause-room
push_each-requires-clause-room g c =
    let xs = get_or (map g.C.Chunk.shown c.args.chunks.now) c.args.chunk [] in
    let part = take c.in_ok-block.block (drop c.args.from xs) in
    omega (
      arith,
      c.requires.room,
      c.requires.within,
      ap length c.in_ok-block.ensures.shown,
      c.in_ok-block.ensures.count,
      length-append (g.C.Chunk.shown c.args.out.now.chunk) part,
      length-take-le c.in_ok-block.block (drop c.args.from xs) (omega (arith, c.requires.within, c.in_ok-block.ensures.count, length-drop c.args.from xs)),
    )

pub returns-clause-shown : goal.returns-clause-shown
returns-clause-shown g c =
    let shown = g.C.Chunk.shown in
    let xs = get_or (map shown c.args.chunks.now) c.args.chunk [] in
    let n = c.in_ok-block.block in
    let old = shown c.args.out.now.chunk in
    let behind = take (c.args.count - n) (drop (c.args.from + n) xs) in
    c.in_ok-push_each.ensures.shown
    ∙ ap (λ ys. ys ++ behind) c.in_ok-block.ensures.shown
    ∙ append_assoc old (take n (drop c.args.from xs)) behind
    ∙ ap (λ ys. old ++ ys) (two_parts xs c.args.from n c.args.count c.in_ok-block.ensures.count)

pub returns-clause-views : goal.returns-clause-views
returns-clause-views g c =
    let views = g.C.Chunk.views in
    let vs = get_or (map views c.args.chunks.now) c.args.chunk [] in
    let n = c.in_ok-block.block in
    let old = views c.args.out.now.chunk in
    let base = get_or c.args.out.now.bases.items c.args.chunk 0 in
    let front = take n (drop c.args.from vs) in
    let behind = take (c.args.count - n) (drop (c.args.from + n) vs) in
    c.in_ok-push_each.ensures.views
    ∙ ap (λ (bs : List ℕ). views c.append_block.new.self.chunk ++ map (moved_view (get_or bs c.args.chunk 0)) behind) c.append_block.ensures.bases
    ∙ ap (λ ws. ws ++ map (moved_view base) behind) c.in_ok-block.ensures.views
    ∙ append_assoc old (map (moved_view base) front) (map (moved_view base) behind)
    ∙ ap (λ ws. old ++ ws) (sym (map-append (moved_view base) front behind))
    ∙ ap (λ ws. old ++ map (moved_view base) ws) (two_parts vs c.args.from n c.args.count c.in_ok-block.ensures.count)
