use Rattle.std.proofs.Common.{◌≡◌, ◌∙◌, None, Some, ap, inr, sym}
use Rattle.std.proofs.lemmas.Result.{err_from_is_err_and}
use Rattle.tb_chunk.specs.Lent.{lent_columns}
use Rattle.tb_frame.specs.Promise.Frame.{selected_columns}
use Rattle.tb_frame.specs.Promise.Refusal.{unknown_key}
use Rattle.tb_frame.specs.Promise.Table.{table_of}
use Rattle.tb_frame.proofs.Selected.{selected-table}
use Rattle.tb_split.proofs.KeyRows.{keys_of, refused}
use Rattle.tb_split.proofs.keys.key_columns.Goals as goal

pub returns-in_err-check_kinds-clause-settles : goal.returns-in_err-check_kinds-clause-settles
returns-in_err-check_kinds-clause-settles c =
    let cs = c.args.table.now in
    let on = c.args.on.now in
    let same = c.get_columns.ensures.columns in
    let known : unknown_key (table_of cs) on ≡ None = (λ t. unknown_key (table_of (sym same t)) on) ∙ c.in_ok-keys.ensures.settles in
    let keys = c.deref.result.now in
    let found : lent_columns keys ≡ selected_columns on cs = ap lent_columns c.deref.ensures.value ∙ c.in_ok-keys.ensures.columns ∙ ap (selected_columns on) same in
    let p = err_from_is_err_and c.from_residual-in_err-check_kinds.result c.from_residual-in_err-check_kinds.ensures.1 in
    rw (p.1, p.2) (inr (refused (table_of cs) (table_of (lent_columns keys)) on _ c.in_ok-check_some.ensures known c.in_ok-check_repeated.ensures (ap table_of found ∙ selected-table on cs) c.in_err-check_kinds.ensures))

pub returns-clause-settles : goal.returns-clause-settles
returns-clause-settles c =
    let cs = c.args.table.now in
    let on = c.args.on.now in
    let same = c.get_columns.ensures.columns in
    let known : unknown_key (table_of cs) on ≡ None = (λ t. unknown_key (table_of (sym same t)) on) ∙ c.in_ok-keys.ensures.settles in
    let keys = c.deref.result.now in
    let found : lent_columns keys ≡ selected_columns on cs = ap lent_columns c.deref.ensures.value ∙ c.in_ok-keys.ensures.columns ∙ ap (selected_columns on) same in
    refused (table_of cs) (table_of (lent_columns keys)) on None c.in_ok-check_some.ensures known c.in_ok-check_repeated.ensures (ap table_of found ∙ selected-table on cs) c.in_ok-check_kinds.ensures

pub returns-clause-keys : goal.returns-clause-keys
returns-clause-keys c =
    let cs = c.args.table.now in
    let on = c.args.on.now in
    let same = c.get_columns.ensures.columns in
    let known : unknown_key (table_of cs) on ≡ None = (λ t. unknown_key (table_of (sym same t)) on) ∙ c.in_ok-keys.ensures.settles in
    keys_of cs on _ c.get_columns.ensures.table c.in_ok-check_some.ensures known (c.in_ok-keys.ensures.columns ∙ ap (selected_columns on) same)
