use Rattle.std.proofs.Common.{◌≡◌, ◌∙◌, List, None, ap, sym}
use Rattle.std.proofs.lemmas.Result.{err_from_is_err_and}
use Rattle.tb_chunk.specs.Promise.Col.{Col}
use Rattle.tb_chunk.specs.Lent.{lent_columns}
use Rattle.tb_frame.specs.Promise.Refusal.{repeated_among}
use Rattle.tb_frame.specs.Promise.Table.{table_of}
use Rattle.tb_unpivot.specs.Blocks.{long_names, parts_in}
use Rattle.tb_unpivot.specs.Promise.Unpivot.{on_names}
use Rattle.tb_unpivot.proofs.Answered.{asked_for, found_level, names_refusal, parts_found}
use Rattle.tb_unpivot.proofs.Causes.{onward, stops}
use Rattle.tb_unpivot.proofs.blocks.blocks_of.Goals as goal

pub returns-in_err-asked-clause-settles : goal.returns-in_err-asked-clause-settles
returns-in_err-asked-clause-settles c =
    let cs = c.args.table.now in
    let on = c.args.on.now in
    let index = c.args.index.now in
    let names = c.deref.result.now in
    let v = c.args.variable.now in
    let w = c.args.value.now in
    let is : names ≡ on_names (table_of cs) on index = c.deref.ensures.value ∙ c.in_ok-on.ensures ∙ ap (λ (ds : List Col). on_names (table_of ds) on index) c.get_columns.ensures.columns in
    let p = err_from_is_err_and c.from_residual-in_err-asked.result c.from_residual-in_err-asked.ensures.1 in
    rw (p.1, p.2) (stops _ _ _ (onward _ _ _ (sym (asked_for cs on index names v w is)) c.in_err-asked.ensures.settles))

pub returns-in_err-check_repeated-clause-settles : goal.returns-in_err-check_repeated-clause-settles
returns-in_err-check_repeated-clause-settles c =
    let cs = c.args.table.now in
    let on = c.args.on.now in
    let index = c.args.index.now in
    let names = c.deref.result.now in
    let v = c.args.variable.now in
    let w = c.args.value.now in
    let is : names ≡ on_names (table_of cs) on index = c.deref.ensures.value ∙ c.in_ok-on.ensures ∙ ap (λ (ds : List Col). on_names (table_of ds) on index) c.get_columns.ensures.columns in
    let p = err_from_is_err_and c.from_residual-in_err-check_repeated.result c.from_residual-in_err-check_repeated.ensures.1 in
    rw (p.1, p.2) (onward _ _ _ (names_refusal cs on index names v w is c.in_ok-asked.asked c.deref-2.result.now c.in_ok-asked.ensures.asked c.deref-2.ensures.value c.in_ok-asked.ensures.settles ∙ ap repeated_among (sym (c.deref-3.ensures.value ∙ c.in_ok-names.ensures))) c.in_err-check_repeated.ensures)

pub invariant_of-result : goal.invariant_of-result
invariant_of-result c =
    let cs = c.args.table.now in
    let on = c.args.on.now in
    let index = c.args.index.now in
    let names = c.deref.result.now in
    let v = c.args.variable.now in
    let w = c.args.value.now in
    let is : names ≡ on_names (table_of cs) on index = c.deref.ensures.value ∙ c.in_ok-on.ensures ∙ ap (λ (ds : List Col). on_names (table_of ds) on index) c.get_columns.ensures.columns in
    let distinct : repeated_among (long_names (table_of (lent_columns c.deref-2.result.now)) v w) ≡ None = ap repeated_among (sym (c.deref-3.ensures.value ∙ c.in_ok-names.ensures)) ∙ c.in_ok-check_repeated.ensures in
    rw (c.in_ok-from_str.ensures, c.in_ok-from_str-2.ensures)
    (found_level cs on index names v w is c.height.result c.in_ok-asked.asked c.deref-2.result.now c.height.ensures.height c.get_columns.ensures.table c.in_ok-asked.ensures.asked c.deref-2.ensures.value distinct)

pub returns-clause-settles : goal.returns-clause-settles
returns-clause-settles c =
    let cs = c.args.table.now in
    let on = c.args.on.now in
    let index = c.args.index.now in
    let names = c.deref.result.now in
    let v = c.args.variable.now in
    let w = c.args.value.now in
    let is : names ≡ on_names (table_of cs) on index = c.deref.ensures.value ∙ c.in_ok-on.ensures ∙ ap (λ (ds : List Col). on_names (table_of ds) on index) c.get_columns.ensures.columns in
    names_refusal cs on index names v w is c.in_ok-asked.asked c.deref-2.result.now c.in_ok-asked.ensures.asked c.deref-2.ensures.value c.in_ok-asked.ensures.settles ∙ ap repeated_among (sym (c.deref-3.ensures.value ∙ c.in_ok-names.ensures)) ∙ c.in_ok-check_repeated.ensures

pub returns-clause-parts : goal.returns-clause-parts
returns-clause-parts c =
    let cs = c.args.table.now in
    let on = c.args.on.now in
    let index = c.args.index.now in
    let names = c.deref.result.now in
    let v = c.args.variable.now in
    let w = c.args.value.now in
    let is : names ≡ on_names (table_of cs) on index = c.deref.ensures.value ∙ c.in_ok-on.ensures ∙ ap (λ (ds : List Col). on_names (table_of ds) on index) c.get_columns.ensures.columns in
    (λ i. parts_in c.height.result c.in_ok-asked.asked (c.in_ok-from_str.ensures i) (c.in_ok-from_str-2.ensures i))
    ∙ parts_found cs on index names v w is c.height.result c.in_ok-asked.asked c.height.ensures.height c.in_ok-asked.ensures.asked
