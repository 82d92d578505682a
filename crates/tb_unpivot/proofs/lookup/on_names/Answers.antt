use Rattle.std.proofs.Common.{◌≡◌, ◌<◌, ◌∙◌, List, length, sym, subst, rules}
use Rattle.std.specs.Prelude.{IfOk}
use Rattle.tb_value.specs.Promise.Names.{Name}
use Rattle.tb_frame.specs.Promise.Table.{table_of}
use Rattle.tb_unpivot.proofs.Lists.{names_left, none_named, some_named}
use Rattle.tb_unpivot.proofs.lookup.on_names.Goals as goal

pub returns-then-is_empty : goal.returns-then-is_empty
returns-then-is_empty c =
    let zero : length c.args.on.now ≡ 0 = search rules in
    let cs = c.args.columns.now in
    subst (λ (ns : List Name). IfOk c.other_names.result (λ v. v.items ≡ ns)) (names_left c.args.index.now cs ∙ sym (none_named (table_of cs) c.args.on.now c.args.index.now zero)) c.other_names.ensures

pub returns : goal.returns
returns c =
    let some : 0 < length c.args.on.now = search rules in
    subst (λ (ns : List Name). IfOk c.copy_names.result (λ v. v.items ≡ ns)) (sym (some_named (table_of c.args.columns.now) c.args.on.now c.args.index.now some)) c.copy_names.ensures
