use Rattle.std.proofs.Common.{◌≡◌, ◌∙◌, ◌<◌, ℕ, List, ap, arith, length, map, sym, subst}
use Rattle.std.specs.List.{All}
use Rattle.std.proofs.lemmas.List.{length-map}
use Rattle.std.proofs.lemmas.Result.{err_from_is_err_and}
use Rattle.tb_value.specs.Promise.Pairs.{row_numbers}
use Rattle.tb_value.specs.Promise.Refusals.{first_cause}
use Rattle.tb_frame.specs.Promise.Table.{table_of}
use Rattle.tb_group.specs.Asked.{asked_as, asked_list}
use Rattle.tb_group.specs.Order.{row_in}
use Rattle.tb_group.specs.Parts.{shown_part}
use Rattle.tb_group.specs.Promise.Refusal.{first_agg_cause, range_cause}
use Rattle.tb_group.specs.Served.{wanted}
use Rattle.tb_group.specs.Whole.{all_firsts, cause_at, placed_at, AreWholeAt}
use Rattle.tb_group.specs.declared.part.PartGroups.{PartGroups}
use Rattle.tb_group.proofs.Answered.{count_is, trace_is}
use Rattle.tb_group.proofs.Causes.{onward}
use Rattle.tb_group.proofs.Finished.{answer_is, causes, few_firsts, few_rows, low_firsts, rows_in_columns, whole}
use Rattle.tb_group.proofs.Needed.{rows_by, rows_made, some_by}
use Rattle.tb_group.proofs.grouping.grouped.Goals as goal

pub grouped_parts-requires-clause-some : goal.grouped_parts-requires-clause-some
grouped_parts-requires-clause-some g c κs within = some_by c.requires.served.0 (wanted c.args.height c.args.by.now c.args.asked.now c.args.made.now c.args.seats.now) c.requires.served.1

pub grouped_parts-requires-clause-rows : goal.grouped_parts-requires-clause-rows
grouped_parts-requires-clause-rows g c κs within = rows_by c.requires.served.0 (wanted c.args.height c.args.by.now c.args.asked.now c.args.made.now c.args.seats.now) c.requires.served.1

pub grouped_parts-requires-clause-few : goal.grouped_parts-requires-clause-few
grouped_parts-requires-clause-few g c κs within = omega (arith, count_is c.requires.served.0 (wanted c.args.height c.args.by.now c.args.asked.now c.args.made.now c.args.seats.now) c.requires.served.1, c.requires.few)

pub grouped_parts-requires-clause-sources : goal.grouped_parts-requires-clause-sources
grouped_parts-requires-clause-sources g c κs within = rows_made c.requires.served.0 (wanted c.args.height c.args.by.now c.args.asked.now c.args.made.now c.args.seats.now) c.requires.served.1

pub places_in_order-requires-clause-few : goal.places_in_order-requires-clause-few
places_in_order-requires-clause-few g c =
    let q = c.requires.served.0 in
    let s = c.requires.served.1 in
    let w = wanted c.args.height c.args.by.now c.args.asked.now c.args.made.now c.args.seats.now in
    let n = c.args.exec.now.partitions in
    let given = c.in_ok-parts.parts.items in
    let firsts = c.deref-2.result.now in
    let is : firsts ≡ all_firsts (map shown_part given) = c.deref-2.ensures.value ∙ c.in_ok-firsts.ensures ∙ ap (λ (l : List PartGroups). all_firsts (map shown_part l)) c.deref.ensures.value in
    few_firsts q w s n c.in_ok-parts.ensures.some given c.in_ok-parts.ensures.parts firsts is c.requires.few

pub places_in_order-requires-clause-within : goal.places_in_order-requires-clause-within
places_in_order-requires-clause-within g c =
    let q = c.requires.served.0 in
    let s = c.requires.served.1 in
    let w = wanted c.args.height c.args.by.now c.args.asked.now c.args.made.now c.args.seats.now in
    let n = c.args.exec.now.partitions in
    let given = c.in_ok-parts.parts.items in
    let firsts = c.deref-2.result.now in
    let is : firsts ≡ all_firsts (map shown_part given) = c.deref-2.ensures.value ∙ c.in_ok-firsts.ensures ∙ ap (λ (l : List PartGroups). all_firsts (map shown_part l)) c.deref.ensures.value in
    low_firsts q w s n c.in_ok-parts.ensures.some given c.in_ok-parts.ensures.parts firsts is

pub agg_columns-requires-clause-long : goal.agg_columns-requires-clause-long
agg_columns-requires-clause-long g c = c.requires.served.1.seated.many ∙ length-map (wanted c.args.height c.args.by.now c.args.asked.now c.args.made.now c.args.seats.now).asked asked_as

pub agg_columns-requires-clause-whole : goal.agg_columns-requires-clause-whole
agg_columns-requires-clause-whole g c =
    let q = c.requires.served.0 in
    let s = c.requires.served.1 in
    let w = wanted c.args.height c.args.by.now c.args.asked.now c.args.made.now c.args.seats.now in
    let n = c.args.exec.now.partitions in
    let given = c.in_ok-parts.parts.items in
    let firsts = c.deref-2.result.now in
    let is : firsts ≡ all_firsts (map shown_part given) = c.deref-2.ensures.value ∙ c.in_ok-firsts.ensures ∙ ap (λ (l : List PartGroups). all_firsts (map shown_part l)) c.deref.ensures.value in
    subst (λ (ps : List PartGroups). AreWholeAt (asked_list w.made) w.seats (map shown_part ps) c.deref-4.result.now) (sym c.deref-3.ensures.value)
    (subst (λ (l : List ℕ). AreWholeAt (asked_list w.made) w.seats (map shown_part given) l) (sym c.deref-4.ensures.value)
    (whole q w s n c.in_ok-parts.ensures.some given c.in_ok-parts.ensures.parts firsts is c.in_ok-places.places.items c.in_ok-places.ensures c.requires.few))

pub returns-in_err-answers-clause-settles : goal.returns-in_err-answers-clause-settles
returns-in_err-answers-clause-settles g c = λ q s.
    let w = wanted c.args.height c.args.by.now c.args.asked.now c.args.made.now c.args.seats.now in
    let n = c.args.exec.now.partitions in
    let given = c.in_ok-parts.parts.items in
    let firsts = c.deref-2.result.now in
    let is : firsts ≡ all_firsts (map shown_part given) = c.deref-2.ensures.value ∙ c.in_ok-firsts.ensures ∙ ap (λ (l : List PartGroups). all_firsts (map shown_part l)) c.deref.ensures.value in
    let caused : first_cause (map (cause_at (asked_list w.asked) (asked_list w.made) w.seats (map shown_part c.deref-3.result.now) c.deref-4.result.now) (row_numbers (length w.asked))) ≡ first_agg_cause q (range_cause q) =
    (λ t. first_cause (map (cause_at (asked_list w.asked) (asked_list w.made) w.seats (map shown_part (c.deref-3.ensures.value t)) (c.deref-4.ensures.value t)) (row_numbers (length w.asked))))
    ∙ causes q w s n c.in_ok-parts.ensures.some given c.in_ok-parts.ensures.parts firsts is c.in_ok-places.places.items c.in_ok-places.ensures in
    let p = err_from_is_err_and c.from_residual-in_err-answers.result c.from_residual-in_err-answers.ensures.1 in
    rw (p.1, p.2) (onward _ _ (first_agg_cause q (range_cause q)) (sym caused) c.in_err-answers.ensures.settles)

pub rows_at-requires : goal.rows_at-requires
rows_at-requires g c =
    subst (λ (l : List ℕ). All (λ p. p < length l) c.deref-6.result.now) (c.deref-2.ensures.value ∙ sym c.deref-5.ensures.value)
    (subst (λ (l : List ℕ). All (λ p. p < length c.deref-2.result.now) l) (sym c.deref-6.ensures.value) c.in_ok-places.ensures.within)

pub answer_columns-requires-clause-rows : goal.answer_columns-requires-clause-rows
answer_columns-requires-clause-rows g c =
    let q = c.requires.served.0 in
    let s = c.requires.served.1 in
    let w = wanted c.args.height c.args.by.now c.args.asked.now c.args.made.now c.args.seats.now in
    let n = c.args.exec.now.partitions in
    let given = c.in_ok-parts.parts.items in
    let firsts = c.deref-2.result.now in
    let is : firsts ≡ all_firsts (map shown_part given) = c.deref-2.ensures.value ∙ c.in_ok-firsts.ensures ∙ ap (λ (l : List PartGroups). all_firsts (map shown_part l)) c.deref.ensures.value in
    let rows = c.deref-7.result.now in
    let at : rows ≡ map (row_in firsts) c.in_ok-places.places.items = c.deref-7.ensures.value ∙ c.in_ok-rows.ensures
    ∙ (λ t. map (row_in ((c.deref-5.ensures.value ∙ sym c.deref-2.ensures.value) t)) (c.deref-6.ensures.value t)) in
    rows_in_columns q w s n c.in_ok-parts.ensures.some given c.in_ok-parts.ensures.parts firsts is c.in_ok-places.places.items c.in_ok-places.ensures rows at

pub answer_columns-requires-clause-few : goal.answer_columns-requires-clause-few
answer_columns-requires-clause-few g c =
    let q = c.requires.served.0 in
    let s = c.requires.served.1 in
    let w = wanted c.args.height c.args.by.now c.args.asked.now c.args.made.now c.args.seats.now in
    let n = c.args.exec.now.partitions in
    let given = c.in_ok-parts.parts.items in
    let firsts = c.deref-2.result.now in
    let is : firsts ≡ all_firsts (map shown_part given) = c.deref-2.ensures.value ∙ c.in_ok-firsts.ensures ∙ ap (λ (l : List PartGroups). all_firsts (map shown_part l)) c.deref.ensures.value in
    let rows = c.deref-7.result.now in
    let at : rows ≡ map (row_in firsts) c.in_ok-places.places.items = c.deref-7.ensures.value ∙ c.in_ok-rows.ensures
    ∙ (λ t. map (row_in ((c.deref-5.ensures.value ∙ sym c.deref-2.ensures.value) t)) (c.deref-6.ensures.value t)) in
    few_rows q w s n c.in_ok-parts.ensures.some given c.in_ok-parts.ensures.parts firsts is c.in_ok-places.places.items c.in_ok-places.ensures rows at c.requires.few

pub returns-clause-settles : goal.returns-clause-settles
returns-clause-settles g c = λ q s.
    let w = wanted c.args.height c.args.by.now c.args.asked.now c.args.made.now c.args.seats.now in
    let n = c.args.exec.now.partitions in
    let given = c.in_ok-parts.parts.items in
    let firsts = c.deref-2.result.now in
    let is : firsts ≡ all_firsts (map shown_part given) = c.deref-2.ensures.value ∙ c.in_ok-firsts.ensures ∙ ap (λ (l : List PartGroups). all_firsts (map shown_part l)) c.deref.ensures.value in
    let caused : first_cause (map (cause_at (asked_list w.asked) (asked_list w.made) w.seats (map shown_part c.deref-3.result.now) c.deref-4.result.now) (row_numbers (length w.asked))) ≡ first_agg_cause q (range_cause q) =
    (λ t. first_cause (map (cause_at (asked_list w.asked) (asked_list w.made) w.seats (map shown_part (c.deref-3.ensures.value t)) (c.deref-4.ensures.value t)) (row_numbers (length w.asked))))
    ∙ causes q w s n c.in_ok-parts.ensures.some given c.in_ok-parts.ensures.parts firsts is c.in_ok-places.places.items c.in_ok-places.ensures in
    sym caused ∙ c.in_ok-answers.ensures.settles

pub returns-clause-table : goal.returns-clause-table
returns-clause-table g c = λ q s.
    let w = wanted c.args.height c.args.by.now c.args.asked.now c.args.made.now c.args.seats.now in
    let n = c.args.exec.now.partitions in
    let given = c.in_ok-parts.parts.items in
    let firsts = c.deref-2.result.now in
    let is : firsts ≡ all_firsts (map shown_part given) = c.deref-2.ensures.value ∙ c.in_ok-firsts.ensures ∙ ap (λ (l : List PartGroups). all_firsts (map shown_part l)) c.deref.ensures.value in
    let rows = c.deref-7.result.now in
    let at : rows ≡ map (row_in firsts) c.in_ok-places.places.items = c.deref-7.ensures.value ∙ c.in_ok-rows.ensures
    ∙ (λ t. map (row_in ((c.deref-5.ensures.value ∙ sym c.deref-2.ensures.value) t)) (c.deref-6.ensures.value t)) in
    let made : table_of c.in_ok-answers.answers.items ≡ map (placed_at (asked_list w.asked) (asked_list w.made) w.seats (map shown_part given) c.in_ok-places.places.items) (row_numbers (length w.asked)) =
    c.in_ok-answers.ensures.columns
    ∙ (λ t. map (placed_at (asked_list w.asked) (asked_list w.made) w.seats (map shown_part (c.deref-3.ensures.value t)) (c.deref-4.ensures.value t)) (row_numbers (length w.asked))) in
    ap table_of c.in_ok-columns.ensures ∙ answer_is q w s n c.in_ok-parts.ensures.some given c.in_ok-parts.ensures.parts firsts is c.in_ok-places.places.items c.in_ok-places.ensures rows at c.in_ok-answers.answers.items made

pub returns-clause-traced : goal.returns-clause-traced
returns-clause-traced g c = λ q s. c.in_ok-parts.ensures.traced ∙ trace_is q (wanted c.args.height c.args.by.now c.args.asked.now c.args.made.now c.args.seats.now) s c.args.exec.now
