use Rattle.std.proofs.Common.{◌≡◌, ◌∙◌, ◌+◌, ◌<◌, List, ap, get_or, length, subst, sym, arith, slice_set as set}
use Rattle.std.specs.Prelude.{if◌then◌else◌}
use Rattle.std.proofs.lemmas.List.{get_or_default}
use Rattle.tb_rows.specs.Coded.{coded_cmp, goes_on, no_row, row_in, same_values, AreSorted}
use Rattle.tb_rows.specs.declared.coded.CodedRow.{CodedRow}
use Rattle.tb_rows.proofs.Leaders.{are_items, led_all, led_more, AreLed}
use Rattle.tb_rows.proofs.coded.sorted_leaders.Goals as goal

pub index_mut-requires : goal.index_mut-requires
index_mut-requires c =
    let old = c.args.rows.items in
    let rows = c.sort_rows.new.rows.items in
    let t = c.loop-at.at in
    let low : t < length rows = omega arith in
    let sorted = subst (λ (all : List CodedRow). AreSorted (coded_cmp c.args.columns.now) all rows) c.requires c.in_ok-told.ensures.sorted in
    let is : c.index.result.now ≡ get_or rows t no_row = c.index.ensures ∙ get_or_default rows t c.index.result.now no_row low in
    let here = are_items c.args.columns.now (row_in old) (length old) rows sorted t no_row low in
    omega (arith, here.0, ap (λ (r : CodedRow). r.place) is, c.loop-at.invariant.count)

pub loop-at-preserved : goal.loop-at-preserved
loop-at-preserved c =
    let cs = c.args.columns.now in
    let old = c.args.rows.items in
    let rows = c.sort_rows.new.rows.items in
    let t = c.loop-at.at in
    let now = c.leader_at-leader.result in
    let low : t < length rows = omega arith in
    let sorted = subst (λ (all : List CodedRow). AreSorted (coded_cmp cs) all rows) c.requires c.in_ok-told.ensures.sorted in
    let is : c.index.result.now ≡ get_or rows t no_row = c.index.ensures ∙ get_or_default rows t c.index.result.now no_row low in
    let lent : c.as_slice.result.now ≡ rows = c.as_slice.ensures.value in
    let leads = c.leader_at-leader.ensures ∙ (λ u. if goes_on cs (lent u) t then c.loop-at.leader else (get_or (lent u) t no_row).place) in
    subst (λ (r : CodedRow). AreLed (same_values cs old) (length old) rows (t + 1) now (set c.loop-at.leaders.items r.place now)) (sym is)
    (led_more cs (row_in old) (length old) rows sorted t low c.loop-at.leader now c.loop-at.leaders.items leads c.loop-at.invariant)

pub returns : goal.returns
returns c =
    let cs = c.args.columns.now in
    let old = c.args.rows.items in
    let rows = c.sort_rows.new.rows.items in
    let sorted = subst (λ (all : List CodedRow). AreSorted (coded_cmp cs) all rows) c.requires c.in_ok-told.ensures.sorted in
    let done : c.loop-at.at ≡ length rows = omega arith in
    led_all cs (row_in old) (length old) rows sorted c.loop-at.leader c.loop-at.leaders.items
    (subst (λ t. AreLed (same_values cs old) (length old) rows t c.loop-at.leader c.loop-at.leaders.items) done c.loop-at.invariant)
