use Rattle.std.proofs.Common.{◌≡◌, ◌∙◌, ◌+ℤ◌, ◌<◌, ℕ, ℤ, pos, List, get_or, set, length, map, replicate, refl, sym, ap, arith, rules, w64}
use mir.Val.{SFits}
use Rattle.std.proofs.lemmas.Int.{to_z-of_z}
use Rattle.std.proofs.lemmas.List.{map-id}
use Rattle.tb_value.proofs.Loops.{map-map}
use Rattle.tb_value.specs.Promise.Datum.{Datum}
use Rattle.tb_value.specs.Promise.Pairs.{row_numbers}
use Rattle.tb_value.specs.See.{lent_value}
use Rattle.tb_chunk.specs.Promise.Col.{values}
use Rattle.tb_rows.specs.Names.{name_of}
use Rattle.tb_rows.specs.Promise.Rows.{row_value}
use Rattle.tb_agg.specs.Promise.Aggregates.{number, total}
use Rattle.tb_agg.specs.Grouped.{group_rows, rows_of}
use Rattle.tb_agg.proofs.Steps.{group_low, kept_there, none_yet, one_more}
use Rattle.tb_agg.proofs.Totals.{total_step}
use Rattle.tb_agg.proofs.sums.narrow_sums.Goals as goal

pub loop-place-init : goal.loop-place-init
loop-place-init c =
    let numbers = c.args.groups.now.numbers.items in
    let vs = values c.args.column.now in
    let g = length c.args.groups.now.firsts.items in
    let is : c.in_ok-sums.sums.items ≡ replicate g (pos 0) = c.in_ok-sums.ensures.items_if_clones_equal (λ y h. h) ∙ ap (λ fs. replicate (length fs) (pos 0)) c.firsts.ensures in
    ap (map (λ (z : ℤ). z)) is ∙ none_yet (λ rows. total (map (λ j. row_value vs (name_of c.args.names j)) rows)) (λ (z : ℤ). z) numbers g (pos 0) refl

pub name-row-requires : goal.name-row-requires
name-row-requires c =
    let numbers = c.args.groups.now.numbers.items in
    (length numbers, omega (arith, c.loop-place-test.true, ap length c.numbers-numbers.ensures), c.requires.rows.named)

pub get-requires : goal.get-requires
get-requires c =
    let n = c.loop-place.place in
    let low = c.requires.rows.within n (omega (arith, c.loop-place-test.true, ap length c.numbers-numbers.ensures)) in
    omega (arith, low, c.name-row.ensures)

pub returns : goal.returns
returns c =
    let numbers = c.args.groups.now.numbers.items in
    let vs = values c.args.column.now in
    let name = name_of c.args.names in
    let ks = row_numbers (length c.args.groups.now.firsts.items) in
    let done : c.loop-place.place ≡ length numbers = omega (arith, ap length c.numbers-numbers.ensures) in
    sym (map-id c.loop-place.sums.items) ∙ c.loop-place.invariant
    ∙ ap (λ n. map (λ k. total (map (λ j. row_value vs (name j)) (rows_of numbers n k))) ks) done
    ∙ sym (λ t. map (λ k. total (map-map (row_value vs) name (rows_of numbers (length numbers) k) t)) ks)
    ∙ sym (map-map (λ rows. total (map (row_value vs) rows)) (group_rows name c.args.groups.now) ks)

pub loop-place-preserved : goal.loop-place-preserved
loop-place-preserved c =
    let numbers = c.args.groups.now.numbers.items in
    let vs = values c.args.column.now in
    let g = length c.args.groups.now.firsts.items in
    let n = c.loop-place.place in
    let kept = c.loop-place.sums.items in
    let so_far = c.loop-place.invariant in
    let p = get_or c.numbers-numbers.result.now n 0 in
    let is : p ≡ get_or numbers n 0 = ap (λ xs. get_or xs n 0) c.numbers-numbers.ensures in
    let below : n < length numbers = omega (arith, c.loop-place-test.true, ap length c.numbers-numbers.ensures) in
    let low = group_low numbers g (length numbers) n p refl c.requires.groups.within below is in
    let value : ℕ → Datum = λ j. row_value vs (name_of c.args.names j) in
    let made = λ (rows : List ℕ). total (map value rows) in
    let self : ℤ → ℤ = λ z. z in
    let at : lent_value c.get.result ≡ value n = c.get.ensures.value ∙ ap (λ (r : ℕ). row_value vs r) c.name-row.ensures in
    let there = kept_there made self numbers g n kept so_far p is low c.index.result.now in
    let old : c.index.result.now ≡ get_or kept p c.index.result.now = c.index.ensures in
    let was : SFits w64 c.index.result.now = search rules in
    let fits : SFits w64 c.in-Some.sum = search rules in
    let next : c.in-Some.sum ≡ c.index.result.now +ℤ number (lent_value c.get.result) =
    c.in-Some.ensures ∙ ap (λ (z : ℤ). z +ℤ number (lent_value c.get.result)) (to_z-of_z w64 c.index.result.now was) in
    ap (λ (z : ℤ). map self (set kept p z)) (to_z-of_z w64 c.in-Some.sum fits)
    ∙ one_more made self numbers g n kept so_far p is low c.in-Some.sum
    (total_step value (rows_of numbers n p) n c.index.result.now c.in-Some.sum (lent_value c.get.result) (ap self old ∙ there) at next)
