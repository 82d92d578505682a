use Rattle.std.proofs.Common.{◌≡◌, ◌∙◌, ◌<◌, ℕ, List, Option, None, get_or, length, map, replicate, refl, sym, ap, subst, arith}
use Rattle.std.specs.List.{All}
use Rattle.std.proofs.lemmas.List.{map-id}
use Rattle.std.proofs.lemmas.List.Elements.{All-replicate, All-set}
use Rattle.tb_value.proofs.Loops.{map-map}
use Rattle.tb_value.specs.Promise.Pairs.{row_numbers}
use Rattle.tb_chunk.specs.Promise.Col.{values}
use Rattle.tb_chunk.specs.Rows.{IsRowOf}
use Rattle.tb_rows.specs.Names.{name_of}
use Rattle.tb_agg.specs.Grouped.{group_rows, rows_of}
use Rattle.tb_agg.specs.Picking.{next_pick, picked_row}
use Rattle.tb_agg.proofs.Keeping.{named_pick}
use Rattle.tb_agg.proofs.Steps.{group_low, kept_there, none_yet, one_more}
use Rattle.tb_agg.proofs.picks.picked_rows.Goals as goal

pub loop-place-init : goal.loop-place-init
loop-place-init c =
    let numbers = c.args.groups.now.numbers.items in
    let vs = values c.args.column.now in
    let g = length c.args.groups.now.firsts.items in
    let is : c.in_ok-picked.picked.items ≡ replicate g None =
    c.in_ok-picked.ensures.items_if_clones_equal (λ y h. h) ∙ ap (λ fs. replicate (length fs) c.null.result) c.firsts.ensures ∙ ap (replicate g) c.null.ensures in
    record {
      picked = ap (map (λ (o : Option ℕ). o)) is ∙ none_yet (λ (rows : List ℕ). picked_row c.args.pick vs (map (name_of c.args.names) rows)) (λ (o : Option ℕ). o) numbers g None refl;
      within = subst (λ (l : List (Option ℕ)). All (IsRowOf (length vs)) l) (sym is) (All-replicate (IsRowOf (length vs)) g None tt);
    }

pub name-requires : goal.name-requires
name-requires c =
    let numbers = c.args.groups.now.numbers.items in
    (length numbers, omega (arith, c.loop-place-test.true, ap length c.numbers-numbers.ensures), c.requires.rows.named)

pub next_pick-requires-clause-row : goal.next_pick-requires-clause-row
next_pick-requires-clause-row c =
    let numbers = c.args.groups.now.numbers.items in
    let n = c.loop-place.place in
    let low = c.requires.rows.within n (omega (arith, c.loop-place-test.true, ap length c.numbers-numbers.ensures)) in
    omega (arith, low, c.name.ensures)

pub loop-place-preserved : goal.loop-place-preserved
loop-place-preserved c =
    let numbers = c.args.groups.now.numbers.items in
    let vs = values c.args.column.now in
    let name = name_of c.args.names in
    let g = length c.args.groups.now.firsts.items in
    let n = c.loop-place.place in
    let kept = c.loop-place.picked.items in
    let so_far = c.loop-place.invariant in
    let p = get_or c.numbers-numbers.result.now n 0 in
    let is : p ≡ get_or numbers n 0 = ap (λ xs. get_or xs n 0) c.numbers-numbers.ensures in
    let below : n < length numbers = omega (arith, c.loop-place-test.true, ap length c.numbers-numbers.ensures) in
    let low = group_low numbers g (length numbers) n p refl c.requires.groups.within below is in
    let made = λ (rows : List ℕ). picked_row c.args.pick vs (map name rows) in
    let there = kept_there made (λ (o : Option ℕ). o) numbers g n kept so_far.picked p is low c.index.result.now in
    let old : c.index.result.now ≡ get_or kept p c.index.result.now = c.index.ensures in
    record {
      picked = one_more made (λ (o : Option ℕ). o) numbers g n kept so_far.picked p is low c.next_pick.result
          (c.next_pick.ensures.next ∙ ap (λ (r : ℕ). next_pick c.args.pick vs c.index.result.now r) c.name.ensures ∙ named_pick c.args.pick vs name (rows_of numbers n p) n c.index.result.now (old ∙ there));
      within = All-set (IsRowOf (length vs)) kept p c.next_pick.result c.next_pick.ensures.within so_far.within;
    }

pub returns : goal.returns
returns c =
    let numbers = c.args.groups.now.numbers.items in
    let vs = values c.args.column.now in
    let name = name_of c.args.names in
    let ks = row_numbers (length c.args.groups.now.firsts.items) in
    let done : c.loop-place.place ≡ length numbers = omega (arith, ap length c.numbers-numbers.ensures) in
    sym (map-id c.loop-place.picked.items) ∙ c.loop-place.invariant.picked
    ∙ ap (λ n. map (λ k. picked_row c.args.pick vs (map name (rows_of numbers n k))) ks) done
    ∙ sym (map-map (picked_row c.args.pick vs) (group_rows name c.args.groups.now) ks)
