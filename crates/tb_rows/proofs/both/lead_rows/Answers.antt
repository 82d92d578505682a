use Rattle.std.proofs.Common.{◌≡◌, ◌∙◌, ◌<◌, ℕ, List, None, get_or, length, refl, sym, ap, subst, arith}
use Rattle.std.specs.Prelude.{IfSome}
use Rattle.std.proofs.lemmas.List.{get_or_default}
use Rattle.tb_numbered.specs.Numbered.{numbered_rows}
use Rattle.tb_rows.specs.Both.{kept_or}
use Rattle.tb_rows.proofs.Pairs.{kept_fits, lead_is, leading_all, leading_none, leading_put, led_low, number_under, row_under}
use Rattle.tb_rows.proofs.both.lead_rows.Goals as goal

pub loop-at-init : goal.loop-at-init
loop-at-init c = leading_none c.args.numbers.now c.args.second.now.numbers.items c.args.group c.args.kept.now.items c.args.leaders.now.items c.requires.led

pub bounds-numbers-row : goal.bounds-numbers-row
bounds-numbers-row c =
    let xs = c.args.numbers.now in
    let ys = c.args.second.now.numbers.items in
    let kept = c.args.kept.now.items in
    let at = c.loop-at.at in
    let rows = c.rows-rows.result.now in
    let is : rows ≡ numbered_rows ys c.args.group = c.rows-rows.ensures in
    let low : at < length (numbered_rows ys c.args.group) = omega (arith, ap length is) in
    let row_is : get_or rows at 0 ≡ get_or (numbered_rows ys c.args.group) at 0 = ap (λ (rs : List ℕ). get_or rs at 0) is in
    let under = row_under xs ys (length kept) c.requires.pairs c.args.group at low kept c.loop-at.kept.items refl c.loop-at.leaders.items c.loop-at.invariant in
    omega (arith, under, row_is)

pub index-requires : goal.index-requires
index-requires c =
    let xs = c.args.numbers.now in
    let ys = c.args.second.now.numbers.items in
    let kept = c.args.kept.now.items in
    let at = c.loop-at.at in
    let rows = c.rows-rows.result.now in
    let is : rows ≡ numbered_rows ys c.args.group = c.rows-rows.ensures in
    let low : at < length (numbered_rows ys c.args.group) = omega (arith, ap length is) in
    let row_is : get_or rows at 0 ≡ get_or (numbered_rows ys c.args.group) at 0 = ap (λ (rs : List ℕ). get_or rs at 0) is in
    let number_is : get_or xs (get_or rows at 0) 0 ≡ get_or xs (get_or (numbered_rows ys c.args.group) at 0) 0 = ap (λ (r : ℕ). get_or xs r 0) row_is in
    let under = number_under xs ys (length kept) c.requires.pairs c.args.group at low kept c.loop-at.kept.items refl c.loop-at.leaders.items c.loop-at.invariant in
    omega (arith, under, number_is)

pub kept_or-leader-requires-clause-row : goal.kept_or-leader-requires-clause-row
kept_or-leader-requires-clause-row c =
    let xs = c.args.numbers.now in
    let ys = c.args.second.now.numbers.items in
    let kept = c.args.kept.now.items in
    let at = c.loop-at.at in
    let rows = c.rows-rows.result.now in
    let is : rows ≡ numbered_rows ys c.args.group = c.rows-rows.ensures in
    let low : at < length (numbered_rows ys c.args.group) = omega (arith, ap length is) in
    let row_is : get_or rows at 0 ≡ get_or (numbered_rows ys c.args.group) at 0 = ap (λ (rs : List ℕ). get_or rs at 0) is in
    let under = row_under xs ys (length kept) c.requires.pairs c.args.group at low kept c.loop-at.kept.items refl c.loop-at.leaders.items c.loop-at.invariant in
    omega (arith, under, row_is, c.requires.pairs.long, ap length c.numbers.ensures)

pub kept_or-leader-requires-clause-kept : goal.kept_or-leader-requires-clause-kept
kept_or-leader-requires-clause-kept c =
    let xs = c.args.numbers.now in
    let ys = c.args.second.now.numbers.items in
    let kept = c.args.kept.now.items in
    let at = c.loop-at.at in
    let rows = c.rows-rows.result.now in
    let is : rows ≡ numbered_rows ys c.args.group = c.rows-rows.ensures in
    let low : at < length (numbered_rows ys c.args.group) = omega (arith, ap length is) in
    let row_is : get_or rows at 0 ≡ get_or (numbered_rows ys c.args.group) at 0 = ap (λ (rs : List ℕ). get_or rs at 0) is in
    let number_is : get_or xs (get_or rows at 0) 0 ≡ get_or xs (get_or (numbered_rows ys c.args.group) at 0) 0 = ap (λ (r : ℕ). get_or xs r 0) row_is in
    let within : get_or xs (get_or rows at 0) 0 < length c.loop-at.kept.items = omega (arith, number_is, number_under xs ys (length kept) c.requires.pairs c.args.group at low kept c.loop-at.kept.items refl c.loop-at.leaders.items c.loop-at.invariant) in
    let kept_is : c.index.result.now ≡ get_or c.loop-at.kept.items (get_or xs (get_or (numbered_rows ys c.args.group) at 0) 0) None
    = c.index.ensures ∙ get_or_default c.loop-at.kept.items (get_or xs (get_or rows at 0) 0) c.index.result.now None within ∙ ap (λ (n : ℕ). get_or c.loop-at.kept.items n None) number_is in
    subst (λ (ns : List ℕ). IfSome c.index.result.now (λ i. i < length ns)) (sym c.numbers.ensures) (kept_fits xs ys (length kept) c.requires.pairs c.args.group at low kept c.loop-at.kept.items refl c.loop-at.leaders.items c.loop-at.invariant c.index.result.now kept_is)

pub some-requires : goal.some-requires
some-requires c =
    let xs = c.args.numbers.now in
    let ys = c.args.second.now.numbers.items in
    let kept = c.args.kept.now.items in
    let at = c.loop-at.at in
    let rows = c.rows-rows.result.now in
    let is : rows ≡ numbered_rows ys c.args.group = c.rows-rows.ensures in
    let low : at < length (numbered_rows ys c.args.group) = omega (arith, ap length is) in
    let row_is : get_or rows at 0 ≡ get_or (numbered_rows ys c.args.group) at 0 = ap (λ (rs : List ℕ). get_or rs at 0) is in
    let number_is : get_or xs (get_or rows at 0) 0 ≡ get_or xs (get_or (numbered_rows ys c.args.group) at 0) 0 = ap (λ (r : ℕ). get_or xs r 0) row_is in
    let within : get_or xs (get_or rows at 0) 0 < length c.loop-at.kept.items = omega (arith, number_is, number_under xs ys (length kept) c.requires.pairs c.args.group at low kept c.loop-at.kept.items refl c.loop-at.leaders.items c.loop-at.invariant) in
    let kept_is : c.index.result.now ≡ get_or c.loop-at.kept.items (get_or xs (get_or (numbered_rows ys c.args.group) at 0) 0) None
    = c.index.ensures ∙ get_or_default c.loop-at.kept.items (get_or xs (get_or rows at 0) 0) c.index.result.now None within ∙ ap (λ (n : ℕ). get_or c.loop-at.kept.items n None) number_is in
    let leader_is = c.kept_or-leader.ensures ∙ (λ t. kept_or c.index.result.now (c.numbers.ensures t) (row_is t)) ∙ lead_is xs ys (length kept) c.requires.pairs c.args.group at low kept c.loop-at.kept.items refl c.loop-at.leaders.items c.loop-at.invariant c.index.result.now kept_is in
    omega (arith, leader_is, led_low xs ys (length kept) c.requires.pairs c.args.group at low kept c.loop-at.kept.items refl c.loop-at.leaders.items c.loop-at.invariant, c.requires.few)

pub index_mut-requires : goal.index_mut-requires
index_mut-requires c =
    let xs = c.args.numbers.now in
    let ys = c.args.second.now.numbers.items in
    let kept = c.args.kept.now.items in
    let at = c.loop-at.at in
    let rows = c.rows-rows.result.now in
    let is : rows ≡ numbered_rows ys c.args.group = c.rows-rows.ensures in
    let low : at < length (numbered_rows ys c.args.group) = omega (arith, ap length is) in
    let row_is : get_or rows at 0 ≡ get_or (numbered_rows ys c.args.group) at 0 = ap (λ (rs : List ℕ). get_or rs at 0) is in
    let number_is : get_or xs (get_or rows at 0) 0 ≡ get_or xs (get_or (numbered_rows ys c.args.group) at 0) 0 = ap (λ (r : ℕ). get_or xs r 0) row_is in
    let under = number_under xs ys (length kept) c.requires.pairs c.args.group at low kept c.loop-at.kept.items refl c.loop-at.leaders.items c.loop-at.invariant in
    omega (arith, under, number_is)

pub index_mut-requires-in-loop-at : goal.index_mut-requires-in-loop-at
index_mut-requires-in-loop-at c =
    let xs = c.args.numbers.now in
    let ys = c.args.second.now.numbers.items in
    let kept = c.args.kept.now.items in
    let at = c.loop-at.at in
    let rows = c.rows-rows.result.now in
    let is : rows ≡ numbered_rows ys c.args.group = c.rows-rows.ensures in
    let low : at < length (numbered_rows ys c.args.group) = omega (arith, ap length is) in
    let row_is : get_or rows at 0 ≡ get_or (numbered_rows ys c.args.group) at 0 = ap (λ (rs : List ℕ). get_or rs at 0) is in
    let under = row_under xs ys (length kept) c.requires.pairs c.args.group at low kept c.loop-at.kept.items refl c.loop-at.leaders.items c.loop-at.invariant in
    omega (arith, under, row_is, c.loop-at.invariant.count)

pub loop-at-preserved : goal.loop-at-preserved
loop-at-preserved c =
    let xs = c.args.numbers.now in
    let ys = c.args.second.now.numbers.items in
    let kept = c.args.kept.now.items in
    let at = c.loop-at.at in
    let rows = c.rows-rows.result.now in
    let is : rows ≡ numbered_rows ys c.args.group = c.rows-rows.ensures in
    let low : at < length (numbered_rows ys c.args.group) = omega (arith, ap length is) in
    let row_is : get_or rows at 0 ≡ get_or (numbered_rows ys c.args.group) at 0 = ap (λ (rs : List ℕ). get_or rs at 0) is in
    let number_is : get_or xs (get_or rows at 0) 0 ≡ get_or xs (get_or (numbered_rows ys c.args.group) at 0) 0 = ap (λ (r : ℕ). get_or xs r 0) row_is in
    let within : get_or xs (get_or rows at 0) 0 < length c.loop-at.kept.items = omega (arith, number_is, number_under xs ys (length kept) c.requires.pairs c.args.group at low kept c.loop-at.kept.items refl c.loop-at.leaders.items c.loop-at.invariant) in
    let kept_is : c.index.result.now ≡ get_or c.loop-at.kept.items (get_or xs (get_or (numbered_rows ys c.args.group) at 0) 0) None
    = c.index.ensures ∙ get_or_default c.loop-at.kept.items (get_or xs (get_or rows at 0) 0) c.index.result.now None within ∙ ap (λ (n : ℕ). get_or c.loop-at.kept.items n None) number_is in
    let leader_is = c.kept_or-leader.ensures ∙ (λ t. kept_or c.index.result.now (c.numbers.ensures t) (row_is t)) ∙ lead_is xs ys (length kept) c.requires.pairs c.args.group at low kept c.loop-at.kept.items refl c.loop-at.leaders.items c.loop-at.invariant c.index.result.now kept_is in
    leading_put xs ys (length kept) c.requires.pairs c.args.group at low kept c.loop-at.kept.items refl c.loop-at.leaders.items c.loop-at.invariant (get_or rows at 0) (get_or xs (get_or rows at 0) 0) c.kept_or-leader.result c.some.result row_is number_is c.some.ensures leader_is

pub returns-clause-led : goal.returns-clause-led
returns-clause-led c = leading_all c.args.numbers.now c.args.second.now.numbers.items c.requires.pairs.long c.args.group c.loop-at.at
    (omega (arith, ap length c.rows-rows.ensures)) c.args.kept.now.items c.loop-at.kept.items c.loop-at.leaders.items c.loop-at.invariant
