use Rattle.std.proofs.Common.{◌≡◌, ◌∙◌, ℕ, List, None, ap, length, sym, subst}
use Rattle.std.proofs.lemmas.Result.{err_from_is_err_and}
use Rattle.tb_chunk.specs.Lent.{lent_columns}
use Rattle.tb_frame.specs.Frame.{frame_refusal}
use Rattle.tb_frame.specs.Promise.Frame.{selected_columns}
use Rattle.tb_frame.specs.Promise.Table.{table_of}
use Rattle.tb_group.specs.Asked.{asked_list, asked_of}
use Rattle.tb_group.specs.Once.{AreOnceTo}
use Rattle.tb_group.specs.Promise.Refusal.{group_refusal}
use Rattle.tb_group.specs.Promise.Request.{agg_sources, by_columns, lent_request}
use Rattle.tb_group.specs.declared.lookup.AskedColumn.{AskedColumn}
use Rattle.tb_group.proofs.Causes.{onward}
use Rattle.tb_group.proofs.Found.{asked_are, keys_are, sources_many}
use Rattle.tb_group.proofs.Refused.{are_served, known_sources, names_refused, not_refused, sums_refused}
use Rattle.tb_group.proofs.grouping.group_by.Goals as goal

pub returns-in_err-columns-clause-settles : goal.returns-in_err-columns-clause-settles
returns-in_err-columns-clause-settles g c =
    let p = err_from_is_err_and c.from_residual.result c.from_residual.ensures.1 in
    rw (p.1, p.2) (names_refused (lent_request c.args.table.now c.args.by.now c.args.aggs.now) _ c.in_err-columns.ensures.settles)

pub asked_columns-requires : goal.asked_columns-requires
asked_columns-requires g c =
    let cs = c.args.table.now in
    let by = c.args.by.now in
    let aggs = c.args.aggs.now in
    let found = c.in_ok-columns.ensures.found in
    let none = c.in_ok-columns.ensures.settles in
    let known = known_sources cs by aggs none in
    let sources : lent_columns c.deref.result.now ≡ selected_columns (agg_sources aggs) cs = ap lent_columns c.deref.ensures.value ∙ found.sources in
    sources_many cs by aggs known c.deref.result.now sources

pub grouped-requires-clause-served : goal.grouped-requires-clause-served
grouped-requires-clause-served g c κs within =
    let cs = c.args.table.now in
    let by = c.args.by.now in
    let aggs = c.args.aggs.now in
    let found = c.in_ok-columns.ensures.found in
    let none = c.in_ok-columns.ensures.settles in
    let known = known_sources cs by aggs none in
    let sources : lent_columns c.deref.result.now ≡ selected_columns (agg_sources aggs) cs = ap lent_columns c.deref.ensures.value ∙ found.sources in
    let made = c.in_ok-once.once.made.items in
    let asked : asked_list c.in_ok-asked.asked.items ≡ asked_of (table_of cs) aggs = c.in_ok-asked.ensures ∙ asked_are cs by aggs known c.deref.result.now sources in
    let keys : table_of (lent_columns c.deref-9.result.now) ≡ by_columns (lent_request cs by aggs) =
    ap (λ l. table_of (lent_columns l)) c.deref-9.ensures.value ∙ c.in_ok-keys.ensures ∙ ap (λ l. table_of (lent_columns l)) c.deref-5.ensures.value
    ∙ keys_are cs by aggs c.in_ok-columns.columns.by.items found.by in
    let once : AreOnceTo c.deref-10.result.now (length c.deref-10.result.now) made c.as_slice-seats.result.now =
    subst (λ (l : List ℕ). AreOnceTo c.deref-10.result.now (length c.deref-10.result.now) made l) (sym c.as_slice-seats.ensures.value)
    (subst (λ (l : List AskedColumn). AreOnceTo l (length l) made c.in_ok-once.once.seats.items) (c.deref-2.ensures.value ∙ sym c.deref-10.ensures.value) c.in_ok-once.ensures) in
    let whole : asked_list c.deref-11.result.now ≡ asked_list made = ap asked_list c.deref-11.ensures.value ∙ c.in_ok-made.ensures ∙ ap asked_list c.deref-7.ensures.value in
    let served = are_served cs by aggs none found.table _ made c.height-height.ensures.height keys (ap asked_list c.deref-10.ensures.value ∙ asked) once whole in
    (lent_request cs by aggs, served)

pub returns-in_err-answer-clause-settles : goal.returns-in_err-answer-clause-settles
returns-in_err-answer-clause-settles g c =
    let cs = c.args.table.now in
    let by = c.args.by.now in
    let aggs = c.args.aggs.now in
    let found = c.in_ok-columns.ensures.found in
    let none = c.in_ok-columns.ensures.settles in
    let known = known_sources cs by aggs none in
    let sources : lent_columns c.deref.result.now ≡ selected_columns (agg_sources aggs) cs = ap lent_columns c.deref.ensures.value ∙ found.sources in
    let made = c.in_ok-once.once.made.items in
    let asked : asked_list c.in_ok-asked.asked.items ≡ asked_of (table_of cs) aggs = c.in_ok-asked.ensures ∙ asked_are cs by aggs known c.deref.result.now sources in
    let keys : table_of (lent_columns c.deref-9.result.now) ≡ by_columns (lent_request cs by aggs) =
    ap (λ l. table_of (lent_columns l)) c.deref-9.ensures.value ∙ c.in_ok-keys.ensures ∙ ap (λ l. table_of (lent_columns l)) c.deref-5.ensures.value
    ∙ keys_are cs by aggs c.in_ok-columns.columns.by.items found.by in
    let once : AreOnceTo c.deref-10.result.now (length c.deref-10.result.now) made c.as_slice-seats.result.now =
    subst (λ (l : List ℕ). AreOnceTo c.deref-10.result.now (length c.deref-10.result.now) made l) (sym c.as_slice-seats.ensures.value)
    (subst (λ (l : List AskedColumn). AreOnceTo l (length l) made c.in_ok-once.once.seats.items) (c.deref-2.ensures.value ∙ sym c.deref-10.ensures.value) c.in_ok-once.ensures) in
    let whole : asked_list c.deref-11.result.now ≡ asked_list made = ap asked_list c.deref-11.ensures.value ∙ c.in_ok-made.ensures ∙ ap asked_list c.deref-7.ensures.value in
    let served = are_served cs by aggs none found.table _ made c.height-height.ensures.height keys (ap asked_list c.deref-10.ensures.value ∙ asked) once whole in
    let p = err_from_is_err_and c.from_residual-in_err-answer.result c.from_residual-in_err-answer.ensures.1 in
    rw (p.1, p.2) (onward _ _ (group_refusal (lent_request cs by aggs)) (sums_refused (lent_request cs by aggs) none) (c.in_err-answer.ensures.settles (lent_request cs by aggs) served))

pub returns-in_err-new-clause-settles : goal.returns-in_err-new-clause-settles
returns-in_err-new-clause-settles g c =
    let cs = c.args.table.now in
    let by = c.args.by.now in
    let aggs = c.args.aggs.now in
    let found = c.in_ok-columns.ensures.found in
    let none = c.in_ok-columns.ensures.settles in
    let known = known_sources cs by aggs none in
    let sources : lent_columns c.deref.result.now ≡ selected_columns (agg_sources aggs) cs = ap lent_columns c.deref.ensures.value ∙ found.sources in
    let made = c.in_ok-once.once.made.items in
    let asked : asked_list c.in_ok-asked.asked.items ≡ asked_of (table_of cs) aggs = c.in_ok-asked.ensures ∙ asked_are cs by aggs known c.deref.result.now sources in
    let keys : table_of (lent_columns c.deref-9.result.now) ≡ by_columns (lent_request cs by aggs) =
    ap (λ l. table_of (lent_columns l)) c.deref-9.ensures.value ∙ c.in_ok-keys.ensures ∙ ap (λ l. table_of (lent_columns l)) c.deref-5.ensures.value
    ∙ keys_are cs by aggs c.in_ok-columns.columns.by.items found.by in
    let once : AreOnceTo c.deref-10.result.now (length c.deref-10.result.now) made c.as_slice-seats.result.now =
    subst (λ (l : List ℕ). AreOnceTo c.deref-10.result.now (length c.deref-10.result.now) made l) (sym c.as_slice-seats.ensures.value)
    (subst (λ (l : List AskedColumn). AreOnceTo l (length l) made c.in_ok-once.once.seats.items) (c.deref-2.ensures.value ∙ sym c.deref-10.ensures.value) c.in_ok-once.ensures) in
    let whole : asked_list c.deref-11.result.now ≡ asked_list made = ap asked_list c.deref-11.ensures.value ∙ c.in_ok-made.ensures ∙ ap asked_list c.deref-7.ensures.value in
    let served = are_served cs by aggs none found.table _ made c.height-height.ensures.height keys (ap asked_list c.deref-10.ensures.value ∙ asked) once whole in
    let fine : frame_refusal (table_of c.in_ok-answer.answer.items) ≡ None = ap frame_refusal (c.in_ok-answer.ensures.table (lent_request cs by aggs) served) ∙ not_refused cs by aggs none in
    let refusal : group_refusal (lent_request cs by aggs) ≡ None = sums_refused (lent_request cs by aggs) none ∙ c.in_ok-answer.ensures.settles (lent_request cs by aggs) served in
    let p = err_from_is_err_and c.from_residual-in_err-new.result c.from_residual-in_err-new.ensures.1 in
    rw (p.1, p.2) (onward _ _ (group_refusal (lent_request cs by aggs)) (refusal ∙ sym fine) c.in_err-new.ensures.settles)

pub returns-clause-settles : goal.returns-clause-settles
returns-clause-settles g c =
    let cs = c.args.table.now in
    let by = c.args.by.now in
    let aggs = c.args.aggs.now in
    let found = c.in_ok-columns.ensures.found in
    let none = c.in_ok-columns.ensures.settles in
    let known = known_sources cs by aggs none in
    let sources : lent_columns c.deref.result.now ≡ selected_columns (agg_sources aggs) cs = ap lent_columns c.deref.ensures.value ∙ found.sources in
    let made = c.in_ok-once.once.made.items in
    let asked : asked_list c.in_ok-asked.asked.items ≡ asked_of (table_of cs) aggs = c.in_ok-asked.ensures ∙ asked_are cs by aggs known c.deref.result.now sources in
    let keys : table_of (lent_columns c.deref-9.result.now) ≡ by_columns (lent_request cs by aggs) =
    ap (λ l. table_of (lent_columns l)) c.deref-9.ensures.value ∙ c.in_ok-keys.ensures ∙ ap (λ l. table_of (lent_columns l)) c.deref-5.ensures.value
    ∙ keys_are cs by aggs c.in_ok-columns.columns.by.items found.by in
    let once : AreOnceTo c.deref-10.result.now (length c.deref-10.result.now) made c.as_slice-seats.result.now =
    subst (λ (l : List ℕ). AreOnceTo c.deref-10.result.now (length c.deref-10.result.now) made l) (sym c.as_slice-seats.ensures.value)
    (subst (λ (l : List AskedColumn). AreOnceTo l (length l) made c.in_ok-once.once.seats.items) (c.deref-2.ensures.value ∙ sym c.deref-10.ensures.value) c.in_ok-once.ensures) in
    let whole : asked_list c.deref-11.result.now ≡ asked_list made = ap asked_list c.deref-11.ensures.value ∙ c.in_ok-made.ensures ∙ ap asked_list c.deref-7.ensures.value in
    let served = are_served cs by aggs none found.table _ made c.height-height.ensures.height keys (ap asked_list c.deref-10.ensures.value ∙ asked) once whole in
    sums_refused (lent_request cs by aggs) none ∙ c.in_ok-answer.ensures.settles (lent_request cs by aggs) served

pub returns-clause-table : goal.returns-clause-table
returns-clause-table g c =
    let cs = c.args.table.now in
    let by = c.args.by.now in
    let aggs = c.args.aggs.now in
    let found = c.in_ok-columns.ensures.found in
    let none = c.in_ok-columns.ensures.settles in
    let known = known_sources cs by aggs none in
    let sources : lent_columns c.deref.result.now ≡ selected_columns (agg_sources aggs) cs = ap lent_columns c.deref.ensures.value ∙ found.sources in
    let made = c.in_ok-once.once.made.items in
    let asked : asked_list c.in_ok-asked.asked.items ≡ asked_of (table_of cs) aggs = c.in_ok-asked.ensures ∙ asked_are cs by aggs known c.deref.result.now sources in
    let keys : table_of (lent_columns c.deref-9.result.now) ≡ by_columns (lent_request cs by aggs) =
    ap (λ l. table_of (lent_columns l)) c.deref-9.ensures.value ∙ c.in_ok-keys.ensures ∙ ap (λ l. table_of (lent_columns l)) c.deref-5.ensures.value
    ∙ keys_are cs by aggs c.in_ok-columns.columns.by.items found.by in
    let once : AreOnceTo c.deref-10.result.now (length c.deref-10.result.now) made c.as_slice-seats.result.now =
    subst (λ (l : List ℕ). AreOnceTo c.deref-10.result.now (length c.deref-10.result.now) made l) (sym c.as_slice-seats.ensures.value)
    (subst (λ (l : List AskedColumn). AreOnceTo l (length l) made c.in_ok-once.once.seats.items) (c.deref-2.ensures.value ∙ sym c.deref-10.ensures.value) c.in_ok-once.ensures) in
    let whole : asked_list c.deref-11.result.now ≡ asked_list made = ap asked_list c.deref-11.ensures.value ∙ c.in_ok-made.ensures ∙ ap asked_list c.deref-7.ensures.value in
    let served = are_served cs by aggs none found.table _ made c.height-height.ensures.height keys (ap asked_list c.deref-10.ensures.value ∙ asked) once whole in
    ap table_of c.in_ok-new.ensures.columns ∙ c.in_ok-answer.ensures.table (lent_request cs by aggs) served

pub returns-clause-traced : goal.returns-clause-traced
returns-clause-traced g c =
    let cs = c.args.table.now in
    let by = c.args.by.now in
    let aggs = c.args.aggs.now in
    let found = c.in_ok-columns.ensures.found in
    let none = c.in_ok-columns.ensures.settles in
    let known = known_sources cs by aggs none in
    let sources : lent_columns c.deref.result.now ≡ selected_columns (agg_sources aggs) cs = ap lent_columns c.deref.ensures.value ∙ found.sources in
    let made = c.in_ok-once.once.made.items in
    let asked : asked_list c.in_ok-asked.asked.items ≡ asked_of (table_of cs) aggs = c.in_ok-asked.ensures ∙ asked_are cs by aggs known c.deref.result.now sources in
    let keys : table_of (lent_columns c.deref-9.result.now) ≡ by_columns (lent_request cs by aggs) =
    ap (λ l. table_of (lent_columns l)) c.deref-9.ensures.value ∙ c.in_ok-keys.ensures ∙ ap (λ l. table_of (lent_columns l)) c.deref-5.ensures.value
    ∙ keys_are cs by aggs c.in_ok-columns.columns.by.items found.by in
    let once : AreOnceTo c.deref-10.result.now (length c.deref-10.result.now) made c.as_slice-seats.result.now =
    subst (λ (l : List ℕ). AreOnceTo c.deref-10.result.now (length c.deref-10.result.now) made l) (sym c.as_slice-seats.ensures.value)
    (subst (λ (l : List AskedColumn). AreOnceTo l (length l) made c.in_ok-once.once.seats.items) (c.deref-2.ensures.value ∙ sym c.deref-10.ensures.value) c.in_ok-once.ensures) in
    let whole : asked_list c.deref-11.result.now ≡ asked_list made = ap asked_list c.deref-11.ensures.value ∙ c.in_ok-made.ensures ∙ ap asked_list c.deref-7.ensures.value in
    let served = are_served cs by aggs none found.table _ made c.height-height.ensures.height keys (ap asked_list c.deref-10.ensures.value ∙ asked) once whole in
    c.in_ok-answer.ensures.traced (lent_request cs by aggs) served
