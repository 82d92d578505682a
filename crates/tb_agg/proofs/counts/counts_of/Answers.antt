use Rattle.std.proofs.Common.{◌≡◌, ◌∙◌, ◌+◌, ◌<◌, ℕ, [], ◌∷◌, get_or, length, map, replicate, refl, sym, ap, arith}
use Rattle.std.proofs.lemmas.List.{length-append, map-id}
use Rattle.tb_value.specs.Promise.Pairs.{row_numbers}
use Rattle.tb_agg.specs.Grouped.{rows_of}
use Rattle.tb_agg.proofs.Steps.{group_low, kept_there, none_yet, one_more, rows_few}
use Rattle.tb_agg.proofs.counts.counts_of.Goals as goal

pub loop-place-init : goal.loop-place-init
loop-place-init c =
    let numbers = c.args.groups.now.numbers.items in
    ap (map (λ (n : ℕ). n)) (c.in_ok-counts.ensures.items_if_clones_equal (λ y h. h))
    ∙ ap (λ g. map (λ (n : ℕ). n) (replicate (length g) 0)) c.firsts.ensures
    ∙ none_yet length (λ (n : ℕ). n) numbers (length c.args.groups.now.firsts.items) 0 refl

pub overflow_add-index_mut : goal.overflow_add-index_mut
overflow_add-index_mut c =
    let numbers = c.args.groups.now.numbers.items in
    let n = c.loop-place.place in
    let p = get_or c.numbers-numbers.result.now n 0 in
    let is : p ≡ get_or numbers n 0 = ap (λ xs. get_or xs n 0) c.numbers-numbers.ensures in
    let below : n < length numbers = omega (arith, c.loop-place-test.true, ap length c.numbers-numbers.ensures) in
    let low = group_low numbers (length c.args.groups.now.firsts.items) (length numbers) n p refl c.requires.groups.within below is in
    let there = kept_there length (λ (k : ℕ). k) numbers (length c.args.groups.now.firsts.items) n c.loop-place.counts.items c.loop-place.invariant p is low c.index_mut.result.now in
    let few = rows_few numbers n p in
    let value = c.index_mut.ensures.value in
    omega (arith, there, few, value, below, c.requires.few)

pub loop-place-preserved : goal.loop-place-preserved
loop-place-preserved c =
    let numbers = c.args.groups.now.numbers.items in
    let n = c.loop-place.place in
    let p = get_or c.numbers-numbers.result.now n 0 in
    let is : p ≡ get_or numbers n 0 = ap (λ xs. get_or xs n 0) c.numbers-numbers.ensures in
    let below : n < length numbers = omega (arith, c.loop-place-test.true, ap length c.numbers-numbers.ensures) in
    let low = group_low numbers (length c.args.groups.now.firsts.items) (length numbers) n p refl c.requires.groups.within below is in
    let there = kept_there length (λ (k : ℕ). k) numbers (length c.args.groups.now.firsts.items) n c.loop-place.counts.items c.loop-place.invariant p is low c.index_mut.result.now in
    let value = c.index_mut.ensures.value in
    let long = length-append (rows_of numbers n p) (n ∷ []) in
    one_more length (λ (k : ℕ). k) numbers (length c.args.groups.now.firsts.items) n c.loop-place.counts.items c.loop-place.invariant p is low (c.index_mut.result.now + 1) (omega (arith, there, value, long))

pub returns : goal.returns
returns c =
    let done : c.loop-place.place ≡ length c.args.groups.now.numbers.items = omega (arith, ap length c.numbers-numbers.ensures) in
    sym (map-id c.loop-place.counts.items) ∙ c.loop-place.invariant
    ∙ ap (λ n. map (λ k. length (rows_of c.args.groups.now.numbers.items n k)) (row_numbers (length c.args.groups.now.firsts.items))) done
