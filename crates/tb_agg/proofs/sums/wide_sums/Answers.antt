use Rattle.std.proofs.Common.{◌≡◌, ◌∙◌, ◌+◌, ◌<◌, ◌≤ℤ◌, ℕ, pos, neg_ℤ, List, get_or, length, map, replicate, refl, sym, ap, subst, arith}
use Rattle.std.specs.List.{All}
use Rattle.std.proofs.lemmas.Int.{ints}
use Rattle.std.proofs.lemmas.List.Elements.{All-get_or, All-replicate, All-set}
use Rattle.tb_value.proofs.Loops.{map-map}
use Rattle.tb_value.specs.Promise.Datum.{Datum}
use Rattle.tb_value.specs.Promise.Pairs.{row_numbers}
use Rattle.tb_value.specs.See.{lent_value}
use Rattle.tb_chunk.specs.Promise.Col.{values}
use Rattle.tb_rows.specs.Names.{name_of}
use Rattle.tb_rows.specs.Promise.Rows.{row_value}
use Rattle.tb_agg.specs.Promise.Aggregates.{total}
use Rattle.tb_agg.specs.Grouped.{group_rows, rows_of}
use Rattle.tb_agg.specs.Running.{sum_so_far}
use Rattle.tb_agg.specs.declared.running.Running.{Running}
use Rattle.tb_agg.proofs.Steps.{all_kept, group_low, kept_there, none_yet, one_more}
use Rattle.tb_agg.proofs.Totals.{total_step}
use Rattle.tb_agg.proofs.sums.wide_sums.Goals as goal

abbrev zero_sum : Running
zero_sum = record { low = pos 0; wraps = pos 0 }

pub loop-place-init : goal.loop-place-init
loop-place-init c =
    let numbers = c.args.groups.now.numbers.items in
    let vs = values c.args.column.now in
    let g = length c.args.groups.now.firsts.items in
    let is : c.in_ok-sums.sums.items ≡ replicate g zero_sum = c.in_ok-sums.ensures.items_if_clones_equal (λ y h. h) ∙ ap (λ fs. replicate (length fs) zero_sum) c.firsts.ensures in
    let down : neg_ℤ (pos 0) ≤ℤ pos 0 = omega (arith, ints) in
    let up : pos 0 ≤ℤ pos 0 = omega (arith, ints) in
    record {
      totals = ap (map sum_so_far) is ∙ none_yet (λ rows. total (map (λ j. row_value vs (name_of c.args.names j)) rows)) sum_so_far numbers g zero_sum refl;
      down = subst (λ (l : List Running). All (λ r. neg_ℤ (pos 0) ≤ℤ r.wraps) l) (sym is) (All-replicate (λ (r : Running). neg_ℤ (pos 0) ≤ℤ r.wraps) g zero_sum down);
      up = subst (λ (l : List Running). All (λ r. r.wraps ≤ℤ pos 0) l) (sym is) (All-replicate (λ (r : Running). r.wraps ≤ℤ pos 0) g zero_sum up);
    }

pub loop-place-preserved : goal.loop-place-preserved
loop-place-preserved c =
    let numbers = c.args.groups.now.numbers.items in
    let vs = values c.args.column.now in
    let g = length c.args.groups.now.firsts.items in
    let n = c.loop-place.place in
    let kept = c.loop-place.sums.items in
    let so_far = c.loop-place.invariant in
    let p = get_or c.numbers-numbers.result.now n 0 in
    let is : p ≡ get_or numbers n 0 = ap (λ xs. get_or xs n 0) c.numbers-numbers.ensures in
    let below : n < length numbers = omega (arith, c.loop-place-test.true, ap length c.numbers-numbers.ensures) in
    let low = group_low numbers g (length numbers) n p refl c.requires.groups.within below is in
    let value : ℕ → Datum = λ j. row_value vs (name_of c.args.names j) in
    let made = λ (rows : List ℕ). total (map value rows) in
    let at : lent_value c.get.result ≡ value n = c.get.ensures.value ∙ ap (λ (r : ℕ). row_value vs r) c.name-row.ensures in
    let there = kept_there made sum_so_far numbers g n kept so_far.totals p is low c.index.result.now in
    let long = all_kept made sum_so_far numbers g n kept so_far.totals p is low in
    let old : c.index.result.now ≡ get_or kept p c.index.result.now = c.index.ensures in
    let wraps : c.index.result.now.wraps ≡ (get_or kept p c.index.result.now).wraps = ap (λ (r : Running). r.wraps) old in
    let low_was = All-get_or (λ (r : Running). neg_ℤ (pos n) ≤ℤ r.wraps) kept p c.index.result.now (omega (arith, long, low)) so_far.down in
    let high_was = All-get_or (λ (r : Running). r.wraps ≤ℤ pos n) kept p c.index.result.now (omega (arith, long, low)) so_far.up in
    let from = c.plus_value.ensures.from in
    let to = c.plus_value.ensures.to in
    record {
      totals = one_more made sum_so_far numbers g n kept so_far.totals p is low c.plus_value.result
          (total_step value (rows_of numbers n p) n (sum_so_far c.index.result.now) (sum_so_far c.plus_value.result) (lent_value c.get.result) (ap sum_so_far old ∙ there) at c.plus_value.ensures.total);
      down = All-set (λ (r : Running). neg_ℤ (pos (n + 1)) ≤ℤ r.wraps) kept p c.plus_value.result (omega (arith, ints, wraps, low_was, from)) (λ k d h. let was = so_far.down k d h in omega (arith, ints, was));
      up = All-set (λ (r : Running). r.wraps ≤ℤ pos (n + 1)) kept p c.plus_value.result (omega (arith, ints, wraps, high_was, to)) (λ k d h. let was = so_far.up k d h in omega (arith, ints, was));
    }

pub name-row-requires : goal.name-row-requires
name-row-requires c =
    let numbers = c.args.groups.now.numbers.items in
    (length numbers, omega (arith, c.loop-place-test.true, ap length c.numbers-numbers.ensures), c.requires.rows.named)

pub get-requires : goal.get-requires
get-requires c =
    let n = c.loop-place.place in
    let low = c.requires.rows.within n (omega (arith, c.loop-place-test.true, ap length c.numbers-numbers.ensures)) in
    omega (arith, low, c.name-row.ensures)

pub returns : goal.returns
returns c =
    let numbers = c.args.groups.now.numbers.items in
    let vs = values c.args.column.now in
    let name = name_of c.args.names in
    let ks = row_numbers (length c.args.groups.now.firsts.items) in
    let done : c.loop-place.place ≡ length numbers = omega (arith, ap length c.numbers-numbers.ensures) in
    c.loop-place.invariant.totals
    ∙ ap (λ n. map (λ k. total (map (λ j. row_value vs (name j)) (rows_of numbers n k))) ks) done
    ∙ sym (λ t. map (λ k. total (map-map (row_value vs) name (rows_of numbers (length numbers) k) t)) ks)
    ∙ sym (map-map (λ rows. total (map (row_value vs) rows)) (group_rows name c.args.groups.now) ks)
