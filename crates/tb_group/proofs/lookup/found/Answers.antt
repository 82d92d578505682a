use Rattle.std.proofs.Common.{◌≡◌, ◌∙◌, None, ap, inr, sym}
use Rattle.std.proofs.lemmas.Result.{err_from_is_err_and}
use Rattle.tb_chunk.specs.Lent.{lent_columns}
use Rattle.tb_frame.specs.Promise.Frame.{selected_columns}
use Rattle.tb_frame.specs.Promise.Refusal.{unknown_key}
use Rattle.tb_frame.specs.Promise.Table.{table_of}
use Rattle.tb_group.specs.Asked.{asked_list}
use Rattle.tb_group.specs.Promise.Request.{agg_sources}
use Rattle.tb_group.proofs.Found.{answer_refused, kinds_refused, none_refused, sources_many, types_are, types_refused}
use Rattle.tb_group.proofs.lookup.found.Goals as goal

pub asked_columns-requires : goal.asked_columns-requires
asked_columns-requires c =
    let cs = c.args.table.now in
    let by = c.args.by.now in
    let aggs = c.args.aggs.now in
    let same = c.get_columns-columns.ensures.columns in
    let named : c.deref.result.now ≡ agg_sources aggs = c.deref.ensures.value ∙ c.in_ok-source_names.ensures in
    let known : unknown_key (table_of cs) (agg_sources aggs) ≡ None = (λ t. unknown_key (table_of (sym same t)) (sym named t)) ∙ c.in_ok-sources.ensures.settles in
    let sources = c.deref-3.result.now in
    let found_sources : lent_columns sources ≡ selected_columns (agg_sources aggs) cs = ap lent_columns c.deref-3.ensures.value ∙ c.in_ok-sources.ensures.columns ∙ (λ t. selected_columns (named t) (same t)) in
    sources_many cs by aggs known sources found_sources

pub returns-in_err-check_kinds-clause-settles : goal.returns-in_err-check_kinds-clause-settles
returns-in_err-check_kinds-clause-settles c =
    let cs = c.args.table.now in
    let by = c.args.by.now in
    let aggs = c.args.aggs.now in
    let same = c.get_columns-columns.ensures.columns in
    let named : c.deref.result.now ≡ agg_sources aggs = c.deref.ensures.value ∙ c.in_ok-source_names.ensures in
    let known : unknown_key (table_of cs) (agg_sources aggs) ≡ None = (λ t. unknown_key (table_of (sym same t)) (sym named t)) ∙ c.in_ok-sources.ensures.settles in
    let known_by : unknown_key (table_of cs) by ≡ None = (λ t. unknown_key (table_of (sym same t)) by) ∙ c.in_ok-by_columns.ensures.settles in
    let keys = c.deref-2.result.now in
    let found : lent_columns keys ≡ selected_columns by cs = ap lent_columns c.deref-2.ensures.value ∙ c.in_ok-by_columns.ensures.columns ∙ ap (selected_columns by) same in
    let p = err_from_is_err_and c.from_residual-in_err-check_kinds.result c.from_residual-in_err-check_kinds.ensures.1 in
    rw (p.1, p.2) (inr (kinds_refused cs by aggs c.in_ok-check_some.ensures known_by known c.in_ok-check_repeated.ensures _ keys found c.in_err-check_kinds.ensures))

pub returns-in_err-check_types-clause-settles : goal.returns-in_err-check_types-clause-settles
returns-in_err-check_types-clause-settles c =
    let cs = c.args.table.now in
    let by = c.args.by.now in
    let aggs = c.args.aggs.now in
    let same = c.get_columns-columns.ensures.columns in
    let named : c.deref.result.now ≡ agg_sources aggs = c.deref.ensures.value ∙ c.in_ok-source_names.ensures in
    let known : unknown_key (table_of cs) (agg_sources aggs) ≡ None = (λ t. unknown_key (table_of (sym same t)) (sym named t)) ∙ c.in_ok-sources.ensures.settles in
    let known_by : unknown_key (table_of cs) by ≡ None = (λ t. unknown_key (table_of (sym same t)) by) ∙ c.in_ok-by_columns.ensures.settles in
    let keys = c.deref-2.result.now in
    let found : lent_columns keys ≡ selected_columns by cs = ap lent_columns c.deref-2.ensures.value ∙ c.in_ok-by_columns.ensures.columns ∙ ap (selected_columns by) same in
    let sources = c.deref-3.result.now in
    let found_sources : lent_columns sources ≡ selected_columns (agg_sources aggs) cs = ap lent_columns c.deref-3.ensures.value ∙ c.in_ok-sources.ensures.columns ∙ (λ t. selected_columns (named t) (same t)) in
    let asked = asked_list c.deref-4.result.now in
    let types = types_are cs by aggs known sources found_sources asked (ap asked_list c.deref-4.ensures.value ∙ c.in_ok-asked_columns.ensures) in
    let p = err_from_is_err_and c.from_residual-in_err-check_types.result c.from_residual-in_err-check_types.ensures.1 in
    rw (p.1, p.2) (types_refused cs by aggs c.in_ok-check_some.ensures known_by known c.in_ok-check_repeated.ensures keys found c.in_ok-check_kinds.ensures asked types _ c.in_err-check_types.ensures)

pub returns-in_err-check_answer_names-clause-settles : goal.returns-in_err-check_answer_names-clause-settles
returns-in_err-check_answer_names-clause-settles c =
    let cs = c.args.table.now in
    let by = c.args.by.now in
    let aggs = c.args.aggs.now in
    let same = c.get_columns-columns.ensures.columns in
    let named : c.deref.result.now ≡ agg_sources aggs = c.deref.ensures.value ∙ c.in_ok-source_names.ensures in
    let known : unknown_key (table_of cs) (agg_sources aggs) ≡ None = (λ t. unknown_key (table_of (sym same t)) (sym named t)) ∙ c.in_ok-sources.ensures.settles in
    let known_by : unknown_key (table_of cs) by ≡ None = (λ t. unknown_key (table_of (sym same t)) by) ∙ c.in_ok-by_columns.ensures.settles in
    let keys = c.deref-2.result.now in
    let found : lent_columns keys ≡ selected_columns by cs = ap lent_columns c.deref-2.ensures.value ∙ c.in_ok-by_columns.ensures.columns ∙ ap (selected_columns by) same in
    let sources = c.deref-3.result.now in
    let found_sources : lent_columns sources ≡ selected_columns (agg_sources aggs) cs = ap lent_columns c.deref-3.ensures.value ∙ c.in_ok-sources.ensures.columns ∙ (λ t. selected_columns (named t) (same t)) in
    let asked = asked_list c.deref-4.result.now in
    let types = types_are cs by aggs known sources found_sources asked (ap asked_list c.deref-4.ensures.value ∙ c.in_ok-asked_columns.ensures) in
    let p = err_from_is_err_and c.from_residual-in_err-check_answer_names.result c.from_residual-in_err-check_answer_names.ensures.1 in
    rw (p.1, p.2) (answer_refused cs by aggs c.in_ok-check_some.ensures known_by known c.in_ok-check_repeated.ensures keys found c.in_ok-check_kinds.ensures asked types c.in_ok-check_types.ensures _ c.in_err-check_answer_names.ensures)

pub returns-clause-settles : goal.returns-clause-settles
returns-clause-settles c =
    let cs = c.args.table.now in
    let by = c.args.by.now in
    let aggs = c.args.aggs.now in
    let same = c.get_columns-columns.ensures.columns in
    let named : c.deref.result.now ≡ agg_sources aggs = c.deref.ensures.value ∙ c.in_ok-source_names.ensures in
    let known : unknown_key (table_of cs) (agg_sources aggs) ≡ None = (λ t. unknown_key (table_of (sym same t)) (sym named t)) ∙ c.in_ok-sources.ensures.settles in
    let known_by : unknown_key (table_of cs) by ≡ None = (λ t. unknown_key (table_of (sym same t)) by) ∙ c.in_ok-by_columns.ensures.settles in
    let keys = c.deref-2.result.now in
    let found : lent_columns keys ≡ selected_columns by cs = ap lent_columns c.deref-2.ensures.value ∙ c.in_ok-by_columns.ensures.columns ∙ ap (selected_columns by) same in
    let sources = c.deref-3.result.now in
    let found_sources : lent_columns sources ≡ selected_columns (agg_sources aggs) cs = ap lent_columns c.deref-3.ensures.value ∙ c.in_ok-sources.ensures.columns ∙ (λ t. selected_columns (named t) (same t)) in
    let asked = asked_list c.deref-4.result.now in
    let types = types_are cs by aggs known sources found_sources asked (ap asked_list c.deref-4.ensures.value ∙ c.in_ok-asked_columns.ensures) in
    none_refused cs by aggs c.in_ok-check_some.ensures known_by known c.in_ok-check_repeated.ensures keys found c.in_ok-check_kinds.ensures asked types c.in_ok-check_types.ensures c.in_ok-check_answer_names.ensures
